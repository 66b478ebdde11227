-- The laws of requests, their beginnings and their refusals.
use Rattle.std.proofs.Common.{◌≡◌, ℕ, ◌+◌, ◌-◌, ◌<◌, ◌≤◌, ◌⊎◌, inl, inr, Bool, true, false, cond, List, [], ◌∷◌, ◌++◌, length, take, drop, min, Result, Ok}
use Rattle.std.proofs.Common.{Err, Option, Some, None, not, nat_lt, codes, sym, ap, subst, ◌∙◌, refl, arith, length-append, length-take}
use Rattle.std.specs.Str.Parse.{digits_value}
use Rattle.std.proofs.lemmas.List.{take-append-le, take-append-drop, get_or_append_left}
use Rattle.std.proofs.lemmas.Bool.{ltb-false}
use Rattle.httparse.specs.Grammar.{RequestHead}
use Rattle.httparse.proofs.GrammarLemmas.{request_unique}
use Rattle.handheld_http.specs.Heads.{Pair, longest_body, empty_line, EndsHead, HasNoEnd, IsHead, pairs_of, body_length, length_by, stated_length, is_number}
use Rattle.handheld_http.specs.Heads.{is_post, count_named, value_of, closes}
use Rattle.handheld_http.specs.Cuts.{Begins, BeginsRequest, IsExtent, IsLineAt, IsNoHead, HasNoBody, Refuses, HasNoHeadYet, LacksBody}
use Rattle.handheld_http.specs.Items as items
use Rattle.handheld_http.specs.Items.{IsWhole, IsItem, IsClosing, HasNoItem, IsRefused}
use Rattle.handheld_http.specs.declared.outcome.Cut.TheVariants.{Whole, More, Refused}
use Rattle.handheld_http.specs.declared.outcome.Extent.{Extent}
use Rattle.handheld_http.proofs.Places.{SameBefore, OccursAt-same, EndsHead-same}

-- ---- where a head ends

-- bytes, and the same bytes with more after them, have the same beginning
pub SameBefore-append : (bytes more : List ℕ) → SameBefore (length bytes) bytes (bytes ++ more)
SameBefore-append bytes more j lt = sym (get_or_append_left bytes more 0 j lt)

-- a head ends within its bytes
pub ends_inside : (bytes : List ℕ) (n : ℕ) → EndsHead bytes n → n ≤ length bytes
ends_inside bytes n ends =
    let fits : n - 4 + 4 ≤ length bytes = ends.there.fits in
    omega (arith, ends.in_range.0)

-- a head ends at the same place when more bytes follow
pub EndsHead-append : (bytes more : List ℕ) (n : ℕ) → EndsHead bytes n → EndsHead (bytes ++ more) n
EndsHead-append bytes more n ends =
    let inside = ends_inside bytes n ends in
    EndsHead-same bytes (bytes ++ more) n (length bytes) (SameBefore-append bytes more) inside (rw length-append (omega arith)) ends

-- a head that ends within a prefix ends there in the prefix
pub EndsHead-front : (bytes more : List ℕ) (n : ℕ) → n ≤ length bytes → EndsHead (bytes ++ more) n → EndsHead bytes n
EndsHead-front bytes more n inside ends =
    EndsHead-same (bytes ++ more) bytes n (length bytes) (λ j h. sym (SameBefore-append bytes more j h)) inside inside ends

-- a head ends at only one place
pub EndsHead-unique : (bytes : List ℕ) (n m : ℕ) → EndsHead bytes n → EndsHead bytes m → n ≡ m
EndsHead-unique bytes n m a b =
    let early : ¬ (n < m) = λ lt. b.first (n - 4) (omega (arith, a.in_range.0)) a.there in
    let late : ¬ (m < n) = λ lt. a.first (m - 4) (omega (arith, b.in_range.0)) b.there in
    omega arith

-- if no head ends, none ends at any place
pub no_end : (bytes : List ℕ) (n : ℕ) → HasNoEnd bytes → EndsHead bytes n → ⊥
no_end bytes n none ends = none (n - 4) (omega (arith, ends.in_range.0, ends.in_range.1)) ends.there

-- ---- bytes that begin with a head

-- bytes begin with the same head when more bytes follow
pub Begins-append : (bytes more : List ℕ) (head body : ℕ) (closing : Bool) (h : RequestHead)
    → Begins bytes head body closing h → Begins (bytes ++ more) head body closing h
Begins-append bytes more head body closing h begins =
    let inside = ends_inside bytes head begins.ends in
    record {
      ends = EndsHead-append bytes more head begins.ends;
      reads = subst (λ (l : List ℕ). IsHead l h) (sym (take-append-le head bytes more inside)) begins.reads;
      length = begins.length;
      closing_is = begins.closing_is;
    }

-- a prefix with the whole head begins with it
pub Begins-front : (bytes more : List ℕ) (head body : ℕ) (closing : Bool) (h : RequestHead) → head ≤ length bytes
    → Begins (bytes ++ more) head body closing h → Begins bytes head body closing h
Begins-front bytes more head body closing h inside begins = record {
  ends = EndsHead-front bytes more head inside begins.ends;
  reads = subst (λ (l : List ℕ). IsHead l h) (take-append-le head bytes more inside) begins.reads;
  length = begins.length;
  closing_is = begins.closing_is;
}

-- bytes are only one head
pub IsHead-unique : (bytes : List ℕ) (h k : RequestHead) → IsHead bytes h → IsHead bytes k → h ≡ k
IsHead-unique bytes h k a b = (request_unique bytes h k [] [] a.0 b.0).0

-- any two beginnings of the same bytes are equal
pub Begins-unique : (bytes : List ℕ) (head body : ℕ) (closing : Bool) (h : RequestHead) (n m : ℕ) (c : Bool) (k : RequestHead)
    → Begins bytes head body closing h → Begins bytes n m c k → (head ≡ n) × (body ≡ m) × (closing ≡ c)
Begins-unique bytes head body closing h n m c k a b =
    let same = EndsHead-unique bytes head n a.ends b.ends in
    let reads : IsHead (take head bytes) k = subst (λ (i : ℕ). IsHead (take i bytes) k) (sym same) b.reads in
    let head_is = IsHead-unique (take head bytes) h k a.reads reads in
    let length_is : body_length h.method (pairs_of h) ≡ Ok m =
    subst (λ (l : RequestHead). body_length l.method (pairs_of l) ≡ Ok m) (sym head_is) b.length in
    let closing_is : closes h.minor (pairs_of h) ≡ c =
    subst (λ (l : RequestHead). closes l.minor (pairs_of l) ≡ c) (sym head_is) b.closing_is in
    (same, cc (a.length, length_is), sym a.closing_is ∙ closing_is)

-- refused bytes begin with no head
pub refused_begins : (bytes : List ℕ) (status head body : ℕ) (closing : Bool) (h : RequestHead)
    → Refuses bytes status → Begins bytes head body closing h → ⊥
refused_begins bytes status head body closing h (inl long) begins = no_end bytes head long.endless begins.ends
refused_begins bytes status head body closing h (inr (inl none)) begins =
    let same = EndsHead-unique bytes head none.head begins.ends none.ends in
    none.none h (subst (λ (i : ℕ). IsHead (take i bytes) h) same begins.reads)
refused_begins bytes status head body closing h (inr (inr barred)) begins =
    let same = EndsHead-unique bytes head barred.head begins.ends barred.ends in
    let reads : IsHead (take barred.head bytes) h = subst (λ (i : ℕ). IsHead (take i bytes) h) same begins.reads in
    let head_is = IsHead-unique (take barred.head bytes) h barred.h reads barred.reads in
    let length_is : body_length h.method (pairs_of h) ≡ Err status =
    subst (λ (l : RequestHead). body_length l.method (pairs_of l) ≡ Err status) (sym head_is) barred.length in
    cc (begins.length, length_is)

-- bytes without the end of a head begin with none
pub unended_begins : (bytes : List ℕ) (head body : ℕ) (closing : Bool) (h : RequestHead)
    → HasNoHeadYet bytes → Begins bytes head body closing h → ⊥
unended_begins bytes head body closing h unended begins = no_end bytes head unended.endless begins.ends

-- ---- bodies

-- a test that does not refuse
passed : (b : Bool) (status body : ℕ) (r : Result ℕ ℕ) → cond b (Err status) r ≡ Ok body → (b ≡ false) × (r ≡ Ok body)
passed true status body r e = absurd cc
passed false status body r e = (refl, e)

stated_le : (value : List ℕ) (body : ℕ) → stated_length value ≡ Ok body → body ≤ longest_body
stated_le value body e =
    let length = digits_value 10 value in
    let long = passed (nat_lt longest_body length) 413 body (Ok length) (passed (not (is_number value)) 400 body _ e).1 in
    let bound : length ≤ longest_body = ltb-false longest_body length long.0 in
    let same : length ≡ body = cc (long.1) in
    subst (λ (n : ℕ). n ≤ longest_body) same bound

length_by_le : (method : List ℕ) (value : Option (List ℕ)) (body : ℕ) → length_by method value ≡ Ok body → body ≤ longest_body
length_by_le method None body e =
    let none = (passed (is_post method) 411 body (Ok 0) e).1 in
    let same : 0 ≡ body = cc in
    subst (λ (n : ℕ). n ≤ longest_body) same (omega arith)
length_by_le method (Some value) body e = stated_le value body e

-- a body is at most as long as the maximum
pub body_length_le : (method : List ℕ) (fields : List Pair) (body : ℕ) → body_length method fields ≡ Ok body → body ≤ longest_body
body_length_le method fields body e =
    let plain = (passed (nat_lt 0 (count_named (codes "Transfer-Encoding") fields)) 501 body _ e).1 in
    let one = (passed (nat_lt 1 (count_named (codes "Content-Length") fields)) 400 body _ plain).1 in
    length_by_le method (value_of (codes "Content-Length") fields) body one

-- ---- items

-- a prefix begins with the same head as the whole
pub Begins-take : (bytes : List ℕ) (n head body : ℕ) (closing : Bool) (h : RequestHead)
    → Begins (take n bytes) head body closing h → Begins bytes head body closing h
Begins-take bytes n head body closing h begins =
    subst (λ (l : List ℕ). Begins l head body closing h) (take-append-drop n bytes)
    (Begins-append (take n bytes) (drop n bytes) head body closing h begins)

-- bytes that begin with no head have no request as a prefix
pub none_begins : (bytes : List ℕ)
    → ((head body : ℕ) (closing : Bool) (h : RequestHead) → Begins bytes head body closing h → ⊥) → HasNoItem bytes
unfolding IsItem
none_begins bytes none n inside (closing, item) =
    none item.head item.body closing item.begins.0 (Begins-take bytes n item.head item.body closing item.begins.0 item.begins.1)

-- any two heads that do not allow a body are equal
barred_unique : (bytes : List ℕ) (status other : ℕ) → HasNoBody bytes status → HasNoBody bytes other → status ≡ other
barred_unique bytes status other a b =
    let same = EndsHead-unique bytes a.head b.head a.ends b.ends in
    let reads : IsHead (take b.head bytes) a.h = subst (λ (i : ℕ). IsHead (take i bytes) a.h) same a.reads in
    let head_is = IsHead-unique (take b.head bytes) a.h b.h reads b.reads in
    let length_is : body_length a.h.method (pairs_of a.h) ≡ Err other =
    subst (λ (l : RequestHead). body_length l.method (pairs_of l) ≡ Err other) (sym head_is) b.length in
    cc (a.length, length_is)

-- bytes that are no head are not a head
head_or_none : (bytes : List ℕ) (status other : ℕ) → IsNoHead bytes status → HasNoBody bytes other → ⊥
head_or_none bytes status other none barred =
    let same = EndsHead-unique bytes barred.head none.head barred.ends none.ends in
    none.none barred.h (subst (λ (i : ℕ). IsHead (take i bytes) barred.h) same barred.reads)

-- bytes are refused with only one status
pub refused_unique : (bytes : List ℕ) (status other : ℕ) → Refuses bytes status → Refuses bytes other → status ≡ other
refused_unique bytes status other (inl a) (inl b) = a.status_is ∙ sym b.status_is
refused_unique bytes status other (inl a) (inr (inl b)) = absurd (no_end bytes b.head a.endless b.ends)
refused_unique bytes status other (inl a) (inr (inr b)) = absurd (no_end bytes b.head a.endless b.ends)
refused_unique bytes status other (inr (inl a)) (inl b) = absurd (no_end bytes a.head b.endless a.ends)
refused_unique bytes status other (inr (inl a)) (inr (inl b)) = a.status_is ∙ sym b.status_is
refused_unique bytes status other (inr (inl a)) (inr (inr b)) = absurd (head_or_none bytes status other a b)
refused_unique bytes status other (inr (inr a)) (inl b) = absurd (no_end bytes a.head b.endless a.ends)
refused_unique bytes status other (inr (inr a)) (inr (inl b)) = absurd (head_or_none bytes other status b a)
refused_unique bytes status other (inr (inr a)) (inr (inr b)) = barred_unique bytes status other a b

-- refused bytes do not await more
refused_awaits : (bytes : List ℕ) (status : ℕ) → Refuses bytes status → HasNoHeadYet bytes ⊎ LacksBody bytes → ⊥
refused_awaits bytes status (inl long) (inl unended) = omega (arith, long.long, unended.short)
refused_awaits bytes status (inr (inl none)) (inl unended) = no_end bytes none.head unended.endless none.ends
refused_awaits bytes status (inr (inr barred)) (inl unended) = no_end bytes barred.head unended.endless barred.ends
refused_awaits bytes status refused (inr lacks) =
    refused_begins bytes status lacks.head lacks.body lacks.closing lacks.begins.0 refused lacks.begins.1

-- a whole request does not await more
whole_awaits : (bytes : List ℕ) (head body : ℕ) (closing : Bool) (h : RequestHead) → Begins bytes head body closing h
    → head + body ≤ length bytes → HasNoHeadYet bytes ⊎ LacksBody bytes → ⊥
whole_awaits bytes head body closing h begins whole (inl unended) = unended_begins bytes head body closing h unended begins
whole_awaits bytes head body closing h begins whole (inr lacks) =
    let same = Begins-unique bytes head body closing h lacks.head lacks.body lacks.closing lacks.begins.0 begins lacks.begins.1 in
    omega (arith, same.0, same.1, lacks.short)

pub one_cut_with : items.OneCut
one_cut_with bytes (Whole head body closing) (Whole n m c) (begins, whole) (others, long) =
    let same = Begins-unique bytes head body closing begins.0 n m c others.0 begins.1 others.1 in
    cc (same.0, same.1, same.2)
one_cut_with bytes (Whole head body closing) More (begins, whole) awaits =
    absurd (whole_awaits bytes head body closing begins.0 begins.1 whole awaits)
one_cut_with bytes (Whole head body closing) (Refused status) (begins, whole) refused =
    absurd (refused_begins bytes status head body closing begins.0 refused begins.1)
one_cut_with bytes More (Whole head body closing) awaits (begins, whole) =
    absurd (whole_awaits bytes head body closing begins.0 begins.1 whole awaits)
one_cut_with bytes More More a b = refl
one_cut_with bytes More (Refused status) awaits refused = absurd (refused_awaits bytes status refused awaits)
one_cut_with bytes (Refused status) (Whole head body closing) refused (begins, whole) =
    absurd (refused_begins bytes status head body closing begins.0 refused begins.1)
one_cut_with bytes (Refused status) More refused awaits = absurd (refused_awaits bytes status refused awaits)
one_cut_with bytes (Refused status) (Refused other) a b = ap (λ n. Refused n) (refused_unique bytes status other a b)

-- nothing follows a list of the same length
no_more : (bytes more : List ℕ) → length (bytes ++ more) ≡ length bytes → more ≡ []
no_more bytes [] e = refl
no_more bytes (x ∷ more) e =
    let long : length bytes + length (x ∷ more) ≡ length bytes = sym (length-append bytes (x ∷ more)) ∙ e in
    absurd (omega (arith, long))

pub no_proper_front_with : items.NoProperFront
unfolding IsItem
no_proper_front_with bytes more (closing, item) (other, longer) =
    let begins = Begins-append bytes more item.head item.body closing item.begins.0 item.begins.1 in
    let same = Begins-unique (bytes ++ more) item.head item.body closing item.begins.0 longer.head longer.body other longer.begins.0
    begins longer.begins.1 in
    no_more bytes more (omega (arith, item.whole, longer.whole, same.0, same.1))

pub items_in_range : items.ItemsAreInRange
unfolding IsItem
items_in_range bytes (closing, item) =
    let begins = item.begins.1 in
    let most = body_length_le item.begins.0.method (pairs_of item.begins.0) item.body begins.length in
    (omega (arith, item.whole, begins.ends.in_range.0), omega (arith, item.whole, begins.ends.in_range.1))

pub head_stays_with : items.HeadStays
head_stays_with bytes more head body closing begins = (begins.0, Begins-append bytes more head body closing begins.0 begins.1)

pub head_tells_cut_with : items.HeadTellsCut
head_tells_cut_with bytes more head body closing begins =
    let stays = head_stays_with bytes more head body closing begins in (
      λ inside. (stays, inside),
      λ short. inr (record { head = head; body = body; closing = closing; begins = stays; short = short }),
    )

-- the places in the extent do not change either
pub extent_stays : (bytes more : List ℕ) (extent : Extent) → IsExtent bytes extent → IsExtent (bytes ++ more) extent
extent_stays bytes more extent is = record {
  h = is.h;
  begins = Begins-append bytes more extent.head extent.body extent.closing is.h is.begins;
  line = subst (λ (l : List ℕ). IsLineAt l extent is.h) (sym (take-append-le extent.head bytes more (ends_inside bytes extent.head is.begins.ends))) is.line;
}

pub refusal_stays_with : items.RefusalStays
refusal_stays_with bytes more status (inl long) = inl (record {
  endless = λ k fits there.
      let inside : k + 4 ≤ length bytes = omega (arith, long.long) in
      long.endless k fits
      (OccursAt-same (bytes ++ more) bytes empty_line k (length bytes) (λ j h. sym (SameBefore-append bytes more j h)) inside inside there);
  long = rw length-append (omega (arith, long.long));
  status_is = long.status_is;
})
refusal_stays_with bytes more status (inr (inl none)) =
    let front = take-append-le none.head bytes more (ends_inside bytes none.head none.ends) in
    inr (inl (record {
      head = none.head;
      ends = EndsHead-append bytes more none.head none.ends;
      none = λ h reads. none.none h (subst (λ (l : List ℕ). IsHead l h) front reads);
      status_is = none.status_is;
    }))
refusal_stays_with bytes more status (inr (inr barred)) =
    let front = take-append-le barred.head bytes more (ends_inside bytes barred.head barred.ends) in
    inr (inr (record {
      head = barred.head;
      h = barred.h;
      ends = EndsHead-append bytes more barred.head barred.ends;
      reads = subst (λ (l : List ℕ). IsHead l barred.h) (sym front) barred.reads;
      length = barred.length;
    }))

-- the bytes of a request that was cut
pub whole_front : (bytes : List ℕ) (head body : ℕ) (closing : Bool) → BeginsRequest bytes head body closing → head + body ≤ length bytes
    → IsWhole (take (head + body) bytes) closing
whole_front bytes head body closing begins inside =
    let n = head + body in
    let long : length (take n bytes) ≡ n = length-take n bytes ∙ omega arith in
    let split : Begins (take n bytes ++ drop n bytes) head body closing begins.0 =
    subst (λ (l : List ℕ). Begins l head body closing begins.0) (sym (take-append-drop n bytes)) begins.1 in
    record {
      head = head;
      body = body;
      begins = (begins.0, Begins-front (take n bytes) (drop n bytes) head body closing begins.0 (omega (arith, long)) split);
      whole = long;
    }

pub whole_is_item_with : items.WholeIsItem
unfolding IsItem IsClosing
whole_is_item_with bytes head body closing (begins, inside) =
    let whole = whole_front bytes head body closing begins inside in (
      (closing, whole),
      (
        λ last. subst (λ (c : Bool). IsWhole (take (head + body) bytes) c) last whole,
        λ last. (Begins-unique bytes head body closing begins.0 last.head last.body true last.begins.0 begins.1
            (Begins-take bytes (head + body) last.head last.body true last.begins.0 last.begins.1)).2,
      ),
    )

pub more_is_none_with : items.MoreIsNone
unfolding IsItem
more_is_none_with bytes (inl unended) = (
  none_begins bytes (λ head body closing h begins. unended_begins bytes head body closing h unended begins),
  λ refused. refused_awaits bytes refused.0 refused.1 (inl unended),
)
more_is_none_with bytes (inr lacks) = (
  λ n inside item.
      let whole = item.1 in
      let begins = Begins-take bytes n whole.head whole.body item.0 whole.begins.0 whole.begins.1 in
      let same = Begins-unique bytes whole.head whole.body item.0 whole.begins.0 lacks.head lacks.body lacks.closing lacks.begins.0
      begins lacks.begins.1 in
      let long : length (take n bytes) ≡ min n (length bytes) = length-take n bytes in
      omega (arith, long, whole.whole, same.0, same.1, lacks.short),
  λ refused. refused_awaits bytes refused.0 refused.1 (inr lacks),
)

pub refused_is_none_with : items.RefusedIsNone
refused_is_none_with bytes more refused =
    let stays = refusal_stays_with bytes more refused.0 refused.1 in
    none_begins (bytes ++ more) (λ head body closing h begins. refused_begins (bytes ++ more) refused.0 head body closing h stays begins)

pub item_is_cut_with : items.ItemIsCut
unfolding IsItem
item_is_cut_with bytes more (closing, item) = (
  item.head,
  item.body,
  closing,
  (head_stays_with bytes more item.head item.body closing item.begins, rw length-append (omega (arith, item.whole))),
  sym item.whole,
)
