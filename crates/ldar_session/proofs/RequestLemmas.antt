-- What is known about the request at the front, and what it asks for.
use Rattle.std.proofs.Common.{◌≡◌, ◌⊎◌, inl, inr, ℕ, ◌+◌, ◌-◌, ◌<◌, ◌≤◌, Bool, true, false, cond, not, nat_lt, List, [], ◌++◌, length, take, drop, min}
use Rattle.std.proofs.Common.{get_or, Option, Some, None, Result, Ok, Err, codes}
use Rattle.std.proofs.Common.{sym, ap, subst, ◌∙◌, length-take, length-append, arith}
use Rattle.std.specs.Str.Parse.{digits_value}
use Rattle.std.proofs.lemmas.Bool.{cases_lt}
use Rattle.std.proofs.lemmas.List.{append-nil, get_or-drop, length-drop}
use Rattle.memchr.specs.Find.{OccursAt, Nowhere}
use Rattle.ldar_law.specs.declared.request.Request.{Request}
use Rattle.ldar_law.specs.declared.request.Request.TheVariants.{Sync}
use Rattle.office_interface.specs.Asking.{IsFromHandheld}
use Rattle.handheld_http.specs.declared.answer.Answer.TheVariants.{Not as AsksNothing}
use Rattle.handheld_http.specs.declared.answer.Asked.{Asked}
use Rattle.handheld_http.specs.declared.answer.Asked.TheVariants.{Request as Asks, Not}
use Rattle.handheld_http.specs.declared.answer.Refusal.{Refusal}
use Rattle.handheld_http.specs.declared.outcome.Cut.TheVariants.{More}
use Rattle.handheld_http.specs.declared.outcome.Extent.{Extent}
use Rattle.handheld_http.specs.declared.outcome.Front.TheVariants.{Unended}
use Rattle.handheld_http.specs.Answers.{IsRefusalStatus, answer_bytes}
use Rattle.handheld_http.specs.Cuts.{BeginsRequest, IsCut, IsExtent, Refuses, HasNoHeadYet}
use Rattle.handheld_http.specs.Heads.{Pair, empty_line, longest_body, body_length, length_by, stated_length, is_number, is_post, count_named}
use Rattle.handheld_http.specs.Heads.{value_of, pairs_of}
use Rattle.handheld_http.specs.Items.{IsItem}
use Rattle.handheld_http.specs.Requests.{Means}
use Rattle.handheld_http.proofs.ItemLaws.{SameBefore-append, Begins-take, Begins-unique, body_length_le, whole_front, more_is_none_with}
use Rattle.handheld_http.proofs.ItemLaws.{refused_is_none_with}
use Rattle.handheld_http.proofs.MeaningLaws.{one_meaning_with, items_mean_with}
use Rattle.handheld_http.proofs.Places.{OccursAt-same}
use Rattle.ldar_session.specs.Requests.{AsksAs, SaysWhy, HasNoneWithin, Knows, request_speech}
use Rattle.ldar_session.specs.Speech.{NoneJoins}
use Rattle.ldar_session.proofs.BatchLemmas.{is_zero}

-- ---- what is known about the head

-- a request is at most as long as the longest one
begun_request_fits : (bytes : List ℕ) (head body : ℕ) (closing : Bool) → BeginsRequest bytes head body closing → head + body ≤ 270_336
begun_request_fits bytes head body closing begins =
    let most = body_length_le begins.0.method (pairs_of begins.0) body begins.1.length in
    omega (arith, most, begins.1.ends.in_range.1)

-- if no empty line ends within the first bytes, none does when more arrive
none_within_more : (bytes more : List ℕ) (n : ℕ) → n ≤ length bytes → HasNoneWithin bytes n → HasNoneWithin (bytes ++ more) n
none_within_more bytes more n inside none k fits there =
    none k fits (OccursAt-same (bytes ++ more) bytes empty_line k (length bytes) (λ j lt. sym (SameBefore-append bytes more j lt))
    (omega (arith, fits, inside)) (omega (arith, fits, inside)) there)

-- if no head has ended, no empty line has
none_yet : (bytes : List ℕ) → HasNoHeadYet bytes → HasNoneWithin bytes (length bytes)
none_yet bytes yet k fits there = yet.endless k (omega (arith, fits, yet.short)) there

-- if a few bytes have no empty line, no head has ended
pub no_head_yet : (bytes : List ℕ) → length bytes < 8_192 → HasNoneWithin bytes (length bytes) → HasNoHeadYet bytes
no_head_yet bytes short none = record {
  endless = λ k fits there. none k there.fits there;
  short = short;
}

-- the bytes that an empty line can be in if it ends after those searched
pub none_after : (bytes rest : List ℕ) (searched : ℕ) → rest ≡ drop (searched - 3) bytes → searched ≤ length bytes → HasNoneWithin bytes searched
    → Nowhere (OccursAt rest empty_line) 0 (length rest + 1) → HasNoneWithin bytes (length bytes)
none_after bytes rest searched is inside none nowhere k fits there =
    elim (cases_lt searched (k + 4)) [
      | inl late ↦
          let m = searched - 3 in
          let long : length rest ≡ length bytes - m = ap length is ∙ length-drop m bytes in
          let at : m + (k - m) ≡ k = omega (arith, late) in
          let moved : OccursAt rest empty_line (k - m) = record {
            fits = omega (arith, long, fits, late);
            reads = λ j lt. ap (λ (l : List ℕ). get_or l (k - m + j) 0) is ∙ get_or-drop m bytes (k - m + j) 0
                ∙ ap (λ i. get_or bytes i 0) (omega (arith, at)) ∙ there.reads j lt;
          } in
          nowhere (k - m) (omega arith) (omega (arith, long, fits, late)) moved
      | inr early ↦ none k (omega (arith, early)) there
    ]

-- bytes that await more fit into the buffer
pub awaited_fit : (bytes : List ℕ) → IsCut bytes More → length bytes < 274_432
awaited_fit bytes (inl yet) = omega (arith, yet.short)
awaited_fit bytes (inr lacks) =
    omega (arith, lacks.short, begun_request_fits bytes lacks.head lacks.body lacks.closing lacks.begins)

-- before a search, nothing is known about the bytes
pub knows_nothing : (bytes : List ℕ) → Knows Unended 0 bytes
knows_nothing bytes = (omega arith, λ k fits there. absurd (omega (arith, fits)))

-- what is known about a head that has not ended still holds when more bytes arrive
pub unended_knows : (bytes more : List ℕ) → HasNoHeadYet bytes → Knows Unended (length bytes) (bytes ++ more)
unended_knows bytes more yet = (
  omega (arith, length-append bytes more),
  none_within_more bytes more (length bytes) (omega arith) (none_yet bytes yet),
)

-- a request without its whole body awaits more
pub lacks_body : (bytes : List ℕ) (extent : Extent) → IsExtent bytes extent → length bytes < extent.head + extent.body → IsCut bytes More
lacks_body bytes extent is short =
    inr (record { head = extent.head; body = extent.body; closing = extent.closing; begins = (is.h, is.begins); short = short })

-- ---- what a request asks for

-- a whole request asks for what it means
pub extent_asks : (bytes : List ℕ) (extent : Extent) (request : Request) → IsExtent bytes extent → extent.head + extent.body ≤ length bytes
    → Means (take (extent.head + extent.body) bytes) (Asks request) → AsksAs extent.closing (take (extent.head + extent.body) bytes) request
extent_asks bytes extent request is inside means =
    record { whole = whole_front bytes extent.head extent.body extent.closing (is.h, is.begins) inside; means = means }

-- a whole request that is not passed on has its reason
pub extent_says : (bytes : List ℕ) (extent : Extent) (why : Refusal) (text : List ℕ) → IsExtent bytes extent → extent.head + extent.body ≤ length bytes
    → Means (take (extent.head + extent.body) bytes) (Not why) → text ≡ answer_bytes (AsksNothing why) extent.closing
    → SaysWhy extent.closing (take (extent.head + extent.body) bytes) text
extent_says bytes extent why text is inside means says =
    record { whole = whole_front bytes extent.head extent.body extent.closing (is.h, is.begins) inside; why = why; means = means; says = says }

-- the request whose head was read is the one at the front
same_asked : (bytes : List ℕ) (extent : Extent) (asked : Asked) → IsExtent bytes extent → Means (take (extent.head + extent.body) bytes) asked
    → (used : ℕ) (other : Asked) → used ≤ length bytes → Means (take used bytes) other → asked ≡ other
same_asked bytes extent asked at means used other within is =
    let n = extent.head + extent.body in
    let begins = Begins-take bytes used is.head is.body is.closing is.h is.begins in
    let same = Begins-unique bytes is.head is.body is.closing is.h extent.head extent.body extent.closing at.h begins at.begins in
    let long : length (take used bytes) ≡ min used (length bytes) = length-take used bytes in
    let whole : used ≡ n = omega (arith, long, is.whole, same.0, same.1) in
    one_meaning_with (take n bytes) asked other means (subst (λ n. Means (take n bytes) other) whole is)

-- if it is no batch of a handheld other than 0, no batch joins
pub none_joins_alone : (bytes : List ℕ) (extent : Extent) (request : Request) → IsExtent bytes extent
    → Means (take (extent.head + extent.body) bytes) (Asks request) → ¬ (IsFromHandheld request) → NoneJoins request_speech bytes
none_joins_alone bytes extent request at means alone used closing batch within is =
    let same = same_asked bytes extent (Asks request) at means used (Asks (Sync batch)) within is.means in
    let request_is : request ≡ Sync batch = cc same in
    is_zero batch.handheld (subst (λ r. ¬ (IsFromHandheld r)) request_is alone)

-- if it is not passed on, no batch joins
pub none_joins_unasked : (bytes : List ℕ) (extent : Extent) (why : Refusal) → IsExtent bytes extent
    → Means (take (extent.head + extent.body) bytes) (Not why) → NoneJoins request_speech bytes
none_joins_unasked bytes extent why at means used closing batch within is =
    let same = same_asked bytes extent (Not why) at means used (Asks (Sync batch)) within is.means in absurd cc

-- while more is awaited, no batch joins
pub none_joins_more : (bytes : List ℕ) → IsCut bytes More → NoneJoins request_speech bytes
none_joins_more bytes more used closing batch within is =
    absurd ((more_is_none_with bytes more).0 used within ((items_mean_with (take used bytes)).1 (Asks (Sync batch), is.means)))

-- if the bytes are refused, no batch joins
pub none_joins_refused : (bytes : List ℕ) (status : ℕ) → Refuses bytes status → NoneJoins request_speech bytes
none_joins_refused bytes status refused used closing batch within is =
    let none = subst (λ (l : List ℕ). (n : ℕ) → n ≤ length l → ¬ (IsItem (take n l))) (append-nil bytes) (refused_is_none_with bytes [] (status, refused)) in
    absurd (none used within ((items_mean_with (take used bytes)).1 (Asks (Sync batch), is.means)))

-- ---- statuses

-- a test refuses with its status, or the next one decides
either : (b : Bool) (says status : ℕ) (r : Result ℕ ℕ) → cond b (Err says) r ≡ Err status → (says ≡ status) ⊎ (r ≡ Err status)
either true says status r e = inl cc
either false says status r e = inr e

-- a stated length is refused with 400 or 413
stated_status : (value : List ℕ) (status : ℕ) → stated_length value ≡ Err status → IsRefusalStatus status
stated_status value status e =
    elim (either (not (is_number value)) 400 status _ e) [
      | inl same ↦ inl (sym same)
      | inr e' ↦ elim (either (nat_lt longest_body (digits_value 10 value)) 413 status (Ok (digits_value 10 value)) e') [
        | inl same ↦ inr (inr (inl (sym same)))
        | inr e'' ↦ absurd cc
      ]
    ]

-- without a stated length it is refused with 411
length_status : (method : List ℕ) (value : Option (List ℕ)) (status : ℕ) → length_by method value ≡ Err status → IsRefusalStatus status
length_status method None status e =
    elim (either (is_post method) 411 status (Ok 0) e) [
      | inl same ↦ inr (inl (sym same))
      | inr e' ↦ absurd cc
    ]
length_status method (Some value) status e = stated_status value status e

-- fields that do not allow a body are refused with one of the statuses
body_status : (method : List ℕ) (fields : List Pair) (status : ℕ) → body_length method fields ≡ Err status → IsRefusalStatus status
body_status method fields status e =
    elim (either (nat_lt 0 (count_named (codes "Transfer-Encoding") fields)) 501 status _ e) [
      | inl same ↦ inr (inr (inr (inr (sym same))))
      | inr e' ↦ elim (either (nat_lt 1 (count_named (codes "Content-Length") fields)) 400 status _ e') [
        | inl same ↦ inl (sym same)
        | inr e'' ↦ length_status method (value_of (codes "Content-Length") fields) status e''
      ]
    ]

-- bytes are refused with one of the statuses
pub refused_status : (bytes : List ℕ) (status : ℕ) → Refuses bytes status → IsRefusalStatus status
refused_status bytes status (inl long) = inr (inr (inr (inl long.status_is)))
refused_status bytes status (inr (inl none)) = inl none.status_is
refused_status bytes status (inr (inr barred)) = body_status barred.h.method (pairs_of barred.h) status barred.length
