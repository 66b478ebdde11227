-- What a request that was cut asks for.
use Rattle.std.proofs.Common.{◌≡◌, ℕ, ◌+◌, ◌-◌, ◌≤◌, Bool, List, ◌++◌, length, take, drop, Ok, Err, inl, inr, sym, ap, subst, ◌∙◌, refl, arith, length-take}
use Rattle.std.specs.List.{slice_range}
use Rattle.std.proofs.lemmas.List.{drop-take, take-append-drop}
use Rattle.httparse.specs.Grammar.{RequestHead}
use Rattle.handheld_http.specs.Heads.{EndsHead, IsHead, pairs_of, body_length}
use Rattle.handheld_http.specs.Cuts.{Begins, IsCut, IsExtent, IsLineAt}
use Rattle.handheld_http.specs.Parsed.{IsAccepted, Judges}
use Rattle.handheld_http.specs.Requests.{Means, RequestAsks, IsAsked}
use Rattle.handheld_http.specs.declared.outcome.Cut.TheVariants.{Whole}
use Rattle.handheld_http.specs.declared.outcome.Extent.{Extent}
use Rattle.handheld_http.specs.declared.answer.Asked.{Asked}
use Rattle.handheld_http.proofs.ItemLaws.{IsHead-unique, Begins-unique, Begins-front, ends_inside}

-- an accepted head is at the front, up to its end
pub accepted_extent : (bytes : List ℕ) (head : ℕ) (extent : Extent) (h : RequestHead) → EndsHead bytes head → IsAccepted (take head bytes) extent h
    → (extent.head ≡ head) × IsExtent bytes extent
accepted_extent bytes head extent h ends accepted =
    let same : extent.head ≡ head = accepted.whole ∙ length-take head bytes ∙ omega (arith, ends_inside bytes head ends) in
    let begins : Begins bytes head extent.body extent.closing h = record {
      ends = ends;
      reads = accepted.reads;
      length = accepted.length_is;
      closing_is = accepted.closing_is;
    } in (
      same,
      record {
        h = h;
        begins = subst (λ (n : ℕ). Begins bytes n extent.body extent.closing h) (sym same) begins;
        line = subst (λ (n : ℕ). IsLineAt (take n bytes) extent h) (sym same) accepted.line;
      },
    )

-- a head with a body that is read is not refused
pub judged : (bytes : List ℕ) (status body : ℕ) (h : RequestHead) → IsHead bytes h → body_length h.method (pairs_of h) ≡ Ok body
    → Judges bytes (Err status) → ⊥
judged bytes status body h reads length (inl none) = none.0 h reads
judged bytes status body h reads length (inr (k, barred)) =
    let head_is : k ≡ h = IsHead-unique bytes k h barred.reads reads in
    let barred_is : body_length h.method (pairs_of h) ≡ Err status =
    subst (λ (l : RequestHead). body_length l.method (pairs_of l) ≡ Err status) head_is barred.length_is in
    cc (length, barred_is)

-- the request that was cut has the extent of its head
pub cut_extent : (bytes : List ℕ) (head : ℕ) (extent : Extent) → extent.head ≡ head → IsExtent bytes extent → (body : ℕ) (closing : Bool)
    → IsCut bytes (Whole head body closing) → (extent.body ≡ body) × (extent.head + extent.body ≤ length bytes)
cut_extent bytes head extent same is body closing cut =
    let one = Begins-unique bytes extent.head extent.body extent.closing is.h head body closing cut.0.0 is.begins cut.0.1 in
    (one.1, omega (arith, same, one.1, cut.1))

-- the body of a request, in its bytes
body_of_item : (bytes : List ℕ) (head body : ℕ) → slice_range bytes head (head + body) ≡ drop head (take (head + body) bytes)
body_of_item bytes head body =
    let long : head + body - head ≡ body = omega arith in
    ap (λ (n : ℕ). take n (drop head bytes)) long ∙ sym (drop-take head body bytes)

-- the method, the target and the body decide what the request asks for
pub line_means : (bytes : List ℕ) (head body : ℕ) (closing : Bool) (h : RequestHead) → Begins bytes head body closing h
    → head + body ≤ length bytes → (asked : Asked) → RequestAsks h.method h.target (slice_range bytes head (head + body)) asked
    → Means (take (head + body) bytes) asked
line_means bytes head body closing h begins inside asked asks =
    let n = head + body in
    let long : length (take n bytes) ≡ n = length-take n bytes ∙ omega arith in
    let split : Begins (take n bytes ++ drop n bytes) head body closing h =
    subst (λ (l : List ℕ). Begins l head body closing h) (sym (take-append-drop n bytes)) begins in
    record {
      head = head;
      body = body;
      closing = closing;
      h = h;
      begins = Begins-front (take n bytes) (drop n bytes) head body closing h (omega (arith, long)) split;
      whole = long;
      asks = subst (λ (l : List ℕ). RequestAsks h.method h.target l asked) (body_of_item bytes head body) asks;
    }

-- the same, in whichever way it was cut
pub extent_asks : (bytes : List ℕ) (head : ℕ) (extent : Extent) → extent.head ≡ head → IsExtent bytes extent → (asked : Asked)
    → Means (take (extent.head + extent.body) bytes) asked → IsAsked bytes head asked
extent_asks bytes head extent same is asked means body closing cut =
    let one = cut_extent bytes head extent same is body closing cut in
    subst (λ (n : ℕ). Means (take n bytes) asked) (omega (arith, same, one.0)) means
