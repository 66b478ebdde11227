use Rattle.std.proofs.Common.{◌≡◌, ◌∙◌}
use Rattle.std.proofs.lemmas.Result.{IfOk-weaker}
use Rattle.handheld_http.proofs.RequestLemmas.{line_means}
use Rattle.handheld_http.proofs.requests.asked_by.Goals as goal

-- the method, the target and the body decide what the request asks for
pub returns : goal.returns
returns c =
    let extent = c.args.extent in
    let is = c.requires.begins in
    let method : c.of-2.result.now ≡ is.h.method = c.of-2.ensures ∙ is.line.method_is in
    let target : c.text_of-target.result.now ≡ is.h.target = c.text_of-target.ensures ∙ c.of.ensures ∙ is.line.target_is in record {
      value = IfOk-weaker c.asked_of.result _ _
          (line_means c.args.bytes.now extent.head extent.body extent.closing is.h is.begins c.requires.whole) (rw (method, target) at c.asked_of.ensures);
    }
