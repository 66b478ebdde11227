use Rattle.std.proofs.Common.{◌≡◌, length, refl, sym, ap, ◌∙◌}
use Rattle.ldar_law.specs.Denials.{valves_in_service, difficult_among}
use Rattle.ldar_law.proofs.ShareLemmas.{valves_are_counted}
use Rattle.batch_rules.specs.declared.share.Share.{Share}
use Rattle.batch_rules.specs.Known.{register_at}
use Rattle.batch_rules.specs.Shares.{share_in}
use Rattle.batch_rules.proofs.difficult.is_share_reached.Goals as goal

pub returns : goal.returns
returns c =
    let case = c.args.case.now in
    let unit = c.args.unit in
    let day = case.entry.0.day in
    let counts = valves_are_counted unit day case.whole in
    let same : c.share_known-share.result ≡ share_in unit day case.whole =
    c.share_known-share.ensures.value ∙ ap (λ d. share_in unit d (register_at c.whole.result.now)) c.day.ensures.value
    ∙ ap (share_in unit day) c.whole.ensures.value in
    let valves : c.share_known-share.result.valves ≡ length (valves_in_service case.whole unit day) = ap (λ (s : Share). s.valves) same ∙ sym counts.valves in
    let difficult : c.share_known-share.result.difficult ≡ length (difficult_among case.whole day (valves_in_service case.whole unit day)) =
    ap (λ (s : Share). s.difficult) same ∙ sym counts.difficult in
    record { value = rw (valves, difficult) refl }
