-- Bytes are cut into requests in only one way.
use Rattle.std.proofs.Common.{◌≡◌, ℕ, zero, suc, inl, inr, Bool, true, false, List, [], ◌∷◌, ◌++◌, length, map, take, Option, Some, None}
use Rattle.std.proofs.Common.{refl, sym, ap, subst, ◌∙◌, append_assoc, length-append, arith}
use Rattle.std.specs.List.{flat_map, AllByRecursion}
use Rattle.std.proofs.Math.Seq.{take-append_seam}
use Rattle.handheld_http.specs.Items.{IsItem, IsWhole, HasNoItem}
use Rattle.handheld_http.proofs.ItemLaws.{Begins-unique, items_in_range, more_is_none_with, no_proper_front_with, refused_is_none_with}
use Rattle.ldar_ports.specs.declared.ended.Ended.{Ended}
use Rattle.ldar_ports.specs.declared.ended.Ended.TheVariants.{Done, Stopped, CutShort, Refused, ReadFault, WriteFault, Memory}
use Rattle.ldar_session.specs.Served.{Served, items_of}
use Rattle.ldar_law.specs.Machine.{Turn}
use Rattle.ldar_session.specs.Session.{Ends, LeavesNone}
use Rattle.ldar_session.specs.Speech.{IsAnswered}
use Rattle.ldar_session.specs.Requests.{AreRequests, IsStream, request_speech}
use Rattle.ldar_session.proofs.StreamLemmas.{cut_in_order, cut_both, items_of-items, same_front, same_behind}

-- what was answered is a request, after which the connection closes or not
whole_by : (closing : Bool) (item text : List ℕ) (turn : Option Turn)
    → IsAnswered request_speech closing (record { item = item; turn = turn; text = text }) → IsWhole item closing
whole_by closing item text None is = is.whole
whole_by closing item text (Some turn) is = is.0.whole

-- the item of what was served is a request, after which the connection closes or not
whole_in : (closing : Bool) (s : Served) → IsAnswered request_speech closing s → IsWhole s.item closing
whole_in closing s is = whole_by closing s.item s.text s.turn is

-- the item of what was served is a request
is_item : (closing : Bool) (s : Served) → IsAnswered request_speech closing s → IsItem s.item
unfolding IsItem
is_item closing s is = (closing, whole_in closing s is)

-- each item of what was served is a request
are_items : (closing : Bool) (served : List Served) → AreRequests closing served → AllByRecursion IsItem (map (λ (s : Served). s.item) served)
are_items closing [] are = tt
are_items closing (s ∷ served) are = (is_item _ s are.0, are_items closing served are.1)

-- a request closes the connection or not
whole_unique : (item : List ℕ) (c d : Bool) → IsWhole item c → IsWhole item d → c ≡ d
whole_unique item c d a b = (Begins-unique item a.head a.body c a.begins.0 b.head b.body d b.begins.0 a.begins.1 b.begins.1).2

-- each whole request at the front of the bytes was answered
pub every_request : (served : List Served) (rest : List ℕ) (requests : List (List ℕ)) (more : List ℕ) → AreRequests false served → HasNoItem rest
    → AllByRecursion IsItem requests → items_of served ++ rest ≡ flat_map (λ bytes. bytes) requests ++ more
    → take (length requests) (map (λ s. s.item) served) ≡ requests
every_request served rest requests more are none all same =
    cut_in_order IsItem no_proper_front_with (map (λ (s : Served). s.item) served) rest requests more (are_items false served are) none all
    (ap (λ l. l ++ rest) (sym (items_of-items served)) ∙ same)

-- the answered requests are the first of those at the front of the bytes
pub in_order : (closing : Bool) (served : List Served) (rest : List ℕ) (requests : List (List ℕ)) (more : List ℕ) → AreRequests closing served
    → AllByRecursion IsItem requests → items_of served ++ rest ≡ flat_map (λ bytes. bytes) requests ++ more
    → take (length requests) (map (λ s. s.item) served) ≡ take (length served) requests
in_order closing served rest requests more are all same =
    cut_both IsItem no_proper_front_with served rest requests more (are_items closing served are) all
    (ap (λ l. l ++ rest) (sym (items_of-items served)) ∙ same)

-- no request is at the front of these bytes
none_stands : (rest more : List ℕ) (closing : Bool) (s : Served) → HasNoItem rest → IsAnswered request_speech closing s → rest ≡ s.item ++ more → ⊥
none_stands rest more closing s none is same =
    let front : s.item ≡ take (length s.item) rest = sym (take-append_seam s.item more) ∙ ap (take (length s.item)) (sym same) in
    none (length s.item) (omega (arith, ap length same, length-append s.item more)) (subst (λ (l : List ℕ). IsItem l) front (is_item closing s is))

-- two streams of the same bytes that begin with a request begin with the same one
same_streams : (closing last : Bool) (s t : Served) (served other : List Served) (rest left : List ℕ)
    → AreRequests closing (s ∷ served) → AreRequests last (t ∷ other) → (closing ≡ false → HasNoItem rest) → (last ≡ false → HasNoItem left)
    → s.item ++ (items_of served ++ rest) ≡ t.item ++ (items_of other ++ left)
    → map (λ (x : Served). x.item) (s ∷ served) ≡ map (λ (x : Served). x.item) (t ∷ other)
same_streams closing last s t [] [] rest left are are' none none' same =
    ap (λ (i : List ℕ). i ∷ []) (same_front IsItem no_proper_front_with s.item t.item rest left (is_item closing s are.0) (is_item last t are'.0) same)
same_streams closing last s t [] (u ∷ other) rest left are are' none none' same =
    let more = items_of (u ∷ other) ++ left in
    let first = same_front IsItem no_proper_front_with s.item t.item rest more (is_item closing s are.0) (is_item false t are'.0) same in
    let stays = whole_unique s.item closing false (whole_in closing s are.0) (subst (λ (i : List ℕ). IsWhole i false) (sym first) (whole_in false t are'.0)) in
    let behind = same_behind s.item t.item rest more first same ∙ append_assoc u.item (items_of other) left in
    absurd (none_stands rest (items_of other ++ left) _ u (none stays) are'.1.0 behind)
same_streams closing last s t (v ∷ served) [] rest left are are' none none' same =
    let more = items_of (v ∷ served) ++ rest in
    let first = same_front IsItem no_proper_front_with s.item t.item more left (is_item false s are.0) (is_item last t are'.0) same in
    let stays = whole_unique s.item false last (whole_in false s are.0) (subst (λ (i : List ℕ). IsWhole i last) (sym first) (whole_in last t are'.0)) in
    let behind = sym (same_behind s.item t.item more left first same) ∙ append_assoc v.item (items_of served) rest in
    absurd (none_stands left (items_of served ++ rest) _ v (none' (sym stays)) are.1.0 behind)
same_streams closing last s t (v ∷ served) (u ∷ other) rest left are are' none none' same =
    let one = items_of (v ∷ served) ++ rest in
    let two = items_of (u ∷ other) ++ left in
    let first = same_front IsItem no_proper_front_with s.item t.item one two (is_item false s are.0) (is_item false t are'.0) same in
    let behind = sym (append_assoc v.item (items_of served) rest) ∙ same_behind s.item t.item one two first same ∙ append_assoc u.item (items_of other) left in
    rw (first, same_streams closing last v u served other rest left are.1 are'.1 none none' behind) refl

-- a stream closes or not; if it does not, no request follows it
stream_parts : (served : List Served) (rest : List ℕ) → IsStream served rest
    → (closing : Bool) × AreRequests closing served × (closing ≡ false → HasNoItem rest) × (served ≡ [] → HasNoItem rest)
stream_parts served rest (inl stays) = (false, stays.0, λ _. stays.1, λ _. stays.1)
stream_parts served rest (inr closed) = (true, closed.0, λ no. absurd cc, λ none. absurd (omega (arith, ap length none, closed.1)))

-- two streams of the same bytes have the same requests
same_requests : (served other : List Served) (rest left : List ℕ) → IsStream served rest → IsStream other left
    → items_of served ++ rest ≡ items_of other ++ left
    → map (λ (s : Served). s.item) served ≡ map (λ (s : Served). s.item) other
same_requests [] [] rest left is is' same = refl
same_requests [] (t ∷ other) rest left is is' same =
    let two = stream_parts (t ∷ other) left is' in
    absurd (none_stands rest (items_of other ++ left) _ t ((stream_parts [] rest is).3 refl) two.1.0 (same ∙ append_assoc t.item (items_of other) left))
same_requests (s ∷ served) [] rest left is is' same =
    let one = stream_parts (s ∷ served) rest is in
    absurd (none_stands left (items_of served ++ rest) _ s ((stream_parts [] left is').3 refl) one.1.0 (sym same ∙ append_assoc s.item (items_of served) rest))
same_requests (s ∷ served) (t ∷ other) rest left is is' same =
    let one = stream_parts (s ∷ served) rest is in
    let two = stream_parts (t ∷ other) left is' in
    same_streams one.0 two.0 s t served other rest left one.1 two.1 one.2 two.2
    (sym (append_assoc s.item (items_of served) rest) ∙ same ∙ append_assoc t.item (items_of other) left)

-- only the bytes decide which requests were answered, and what is left over
pub one_stream : (served other : List Served) (rest left : List ℕ) → IsStream served rest → IsStream other left
    → items_of served ++ rest ≡ items_of other ++ left
    → (map (λ s. s.item) served ≡ map (λ s. s.item) other) × (rest ≡ left)
one_stream served other rest left is is' same =
    let are = same_requests served other rest left is is' same in
    let bytes : items_of served ≡ items_of other = items_of-items served ∙ ap (flat_map (λ (l : List ℕ). l)) are ∙ sym (items_of-items other) in
    (are, same_behind (items_of served) (items_of other) rest left bytes same)

-- ---- unanswered requests

-- no request is empty
none_in_nothing : HasNoItem []
none_in_nothing zero within item = absurd (omega (arith, (items_in_range [] item).0))
none_in_nothing (suc n) within item = absurd (omega (arith, within))

-- no whole request was left unanswered
pub leaves_none : (ended : Ended) (served : List Served) (rest : List ℕ) (left : Option (List ℕ)) (unsaid : List ℕ) → Ends ended served rest left unsaid
    → LeavesNone ended served rest
leaves_none Done served rest left unsaid (inl stays) = inl (stays.are, subst HasNoItem (sym stays.input.0) none_in_nothing)
leaves_none Done served rest left unsaid (inr closed) = inr (closed.are, closed.some)
leaves_none Stopped served rest left unsaid ends = ends.most
leaves_none (CutShort got) served rest left unsaid ends = inl (ends.are, (more_is_none_with rest ends.input.2).0)
leaves_none (Refused at) served rest left unsaid (inl stays) = absurd stays.input.1
leaves_none (Refused at) served rest left unsaid (inr (ends, said)) = (
  ends.before,
  ends.last,
  ends.served_are,
  ends.counted,
  inl (ends.are, refused_is_none_with ends.last.item rest (ends.away.says.status, ends.away.says.refused)),
)
leaves_none ReadFault served rest left unsaid ends = inl (ends.are, (more_is_none_with rest ends.input).0)
leaves_none WriteFault served rest left unsaid ends = tt
leaves_none Memory served rest left unsaid ends = tt
