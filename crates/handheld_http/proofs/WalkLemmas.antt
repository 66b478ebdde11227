-- The values of a route's parameters in a path: the parts between its slashes.
use Rattle.std.proofs.Common.{◌≡◌, ℕ, ◌+◌, ◌-◌, ◌<◌, ◌≤◌, ◌⊎◌, inl, inr, Bool, true, false, cond, not, ◌&&◌, ◌==◌, ltb, leb, min, List, [], ◌∷◌, ◌++◌, length}
use Rattle.std.proofs.Common.{take, drop, get_or, sym, ap, ap₂, subst, ◌∙◌, refl, arith, length-append, length-drop}
use Rattle.std.specs.List.{list_all, before_first, after_first, position_or_len}
use Rattle.std.proofs.lemmas.List.{drop-drop, append-nil, get_or-drop}
use Rattle.std.proofs.lemmas.Bool.{ltb-true, lt-ltb, le-ltb, le-leb}
use Rattle.matchit.specs.Rows.{param_token}
use Rattle.matchit.specs.Seek.{has_slash, segment, slash}
use Rattle.matchit.specs.Params.{walk, wild_from, wild_stop, part_of, after_token, next_at}
use Rattle.matchit.proofs.ConflictLemmas.{and-cases}
use Rattle.handheld_http.proofs.FoundRoutes.{Takes}

-- each element is a byte
abbrev pub are_bytes : List ℕ → Bool
are_bytes w = list_all (λ x. ltb x 256) w

-- ---- what a row matches

-- a word of bytes matches itself
takes_word : (w t path : List ℕ) → are_bytes w ≡ true → Takes (w ++ t) path → (more : List ℕ) × (path ≡ w ++ more) × Takes t more
takes_word [] t path bytes takes = (path, refl, takes)
takes_word (x ∷ w) t path bytes (inl (more, is, takes)) =
    let behind = takes_word w t more (and-cases (ltb x 256) (are_bytes w) bytes).1 takes in
    (behind.0, is ∙ ap (λ (l : List ℕ). x ∷ l) behind.1, behind.2)
takes_word (x ∷ w) t path bytes (inr (inl (is, taken))) =
    let small = ltb-true x 256 (and-cases (ltb x 256) (are_bytes w) bytes).0 in
    absurd (omega (arith, small, is))
takes_word (x ∷ w) t path bytes (inr (inr is)) =
    let small = ltb-true x 256 (and-cases (ltb x 256) (are_bytes w) bytes).0 in
    absurd (omega (arith, small, is))

-- a parameter matches a part without a slash
takes_param : (t path : List ℕ) → Takes (256 ∷ t) path
    → (a : List ℕ) × (more : List ℕ) × (path ≡ a ++ more) × (has_slash a ≡ false) × Takes t more
takes_param t path (inl (more, is, takes)) = (256 ∷ [], more, is, refl, takes)
takes_param t path (inr (inl (is, taken))) = taken
takes_param t path (inr (inr is)) = absurd (omega (arith, is))

-- ---- lists

-- the rest after a prefix
drop_front : (a q : List ℕ) → drop (length a) (a ++ q) ≡ q
drop_front [] q = refl
drop_front (x ∷ a) q = drop_front a q

-- the prefix before a rest
take_front : (a q : List ℕ) → take (length a) (a ++ q) ≡ a
take_front [] q = refl
take_front (x ∷ a) q = ap (λ (l : List ℕ). x ∷ l) (take_front a q)

-- the rest after a prefix, further on
drop_on : (n : ℕ) (path a q : List ℕ) → drop n path ≡ a ++ q → drop (n + length a) path ≡ q
drop_on n path a q is = sym (drop-drop (length a) n path) ∙ ap (drop (length a)) is ∙ drop_front a q

-- the length of what was passed
passed_le : (n : ℕ) (path rest : List ℕ) → n ≤ length path → drop n path ≡ rest → length path ≡ n + length rest
passed_le n path rest within is =
    let long : length path - n ≡ length rest = sym (length-drop n path) ∙ ap length is in
    omega (arith, long, within)

-- a test that is not passed
plain_head : (slashed more : Bool) → cond slashed true more ≡ false → (slashed ≡ false) × (more ≡ false)
plain_head true more e = absurd cc
plain_head false more e = (refl, e)

-- a segment ends at its slash
segment_plain : (a q : List ℕ) → has_slash a ≡ false → segment (a ++ 47 ∷ q) ≡ a ++ 47 ∷ []
segment_plain [] q plain = refl
segment_plain (x ∷ a) q plain =
    let head = plain_head (x == slash) (has_slash a) plain in
    rw head.0 (ap (λ (l : List ℕ). x ∷ l) (segment_plain a q head.1))

-- ---- the parts of a path

-- the first slash is after a part
slash_behind : (a q : List ℕ) → has_slash a ≡ false → position_or_len (λ b. b == 47) (a ++ 47 ∷ q) ≡ length a
slash_behind [] q plain = refl
slash_behind (x ∷ a) q plain =
    let head = plain_head (x == slash) (has_slash a) plain in
    let one : 1 + length a ≡ length (x ∷ a) = omega arith in
    rw head.0 (ap (λ (n : ℕ). 1 + n) (slash_behind a q head.1) ∙ one)

-- without a slash, the position is the length
no_slash_in : (a : List ℕ) → has_slash a ≡ false → position_or_len (λ b. b == 47) a ≡ length a
no_slash_in [] plain = refl
no_slash_in (x ∷ a) plain =
    let head = plain_head (x == slash) (has_slash a) plain in
    let one : 1 + length a ≡ length (x ∷ a) = omega arith in
    rw head.0 (ap (λ (n : ℕ). 1 + n) (no_slash_in a head.1) ∙ one)

-- a part, and the rest after its slash
pub part_is : (a q : List ℕ) → has_slash a ≡ false → before_first (λ b. b == 47) (a ++ 47 ∷ q) ≡ a
part_is a q plain = ap (λ (n : ℕ). take n (a ++ 47 ∷ q)) (slash_behind a q plain) ∙ take_front a (47 ∷ q)

pub rest_is : (a q : List ℕ) → has_slash a ≡ false → after_first (λ b. b == 47) (a ++ 47 ∷ q) ≡ q
rest_is a q plain =
    ap (λ (n : ℕ). drop (n + 1) (a ++ 47 ∷ q)) (slash_behind a q plain)
    ∙ sym (drop-drop 1 (length a) (a ++ 47 ∷ q)) ∙ ap (drop 1) (drop_front a (47 ∷ q))

-- the last part
pub last_part_is : (a : List ℕ) → has_slash a ≡ false → before_first (λ b. b == 47) a ≡ a
last_part_is a plain =
    ap (λ (n : ℕ). take n a) (no_slash_in a plain) ∙ ap (take (length a)) (sym (append-nil a)) ∙ take_front a []

-- ---- the walk

-- the walk to the next parameter passes a word
wild_word : (w t : List ℕ) (len token at : ℕ) → are_bytes w ≡ true → at + length w ≤ len
    → wild_from (w ++ t) len token at ≡ wild_from t len (token + length w) (at + length w)
wild_word [] t len token at bytes fits = ap₂ (λ (m n : ℕ). wild_from t len m n) (omega arith) (omega arith)
wild_word (x ∷ w) t len token at bytes fits =
    let both = and-cases (ltb x 256) (are_bytes w) bytes in
    let inside : ltb at len ≡ true = lt-ltb at len (omega (arith, fits)) in
    let behind = wild_word w t len (token + 1) (at + 1) both.1 (omega (arith, fits)) in
    rw (both.0, inside) (behind ∙ ap₂ (λ (m n : ℕ). wild_from t len m n) (omega arith) (omega arith))

-- the next parameter is after a word
wild_at : (p path w t more : List ℕ) (token at : ℕ) → are_bytes w ≡ true → drop token p ≡ w ++ 256 ∷ t → at ≤ length path
    → drop at path ≡ w ++ more → wild_from (drop token p) (length path) token at ≡ (token + length w, at + length w)
wild_at p path w t more token at bytes tokens within is =
    let long = passed_le at path (w ++ more) within is in
    ap (λ (l : List ℕ). wild_from l (length path) token at) tokens
    ∙ wild_word w (256 ∷ t) (length path) token at bytes (omega (arith, long, length-append w more))

-- a part of the path, from its places
part_at : (path a q : List ℕ) (at : ℕ) → at ≤ length path → drop at path ≡ a ++ q → part_of path at (at + length a) ≡ a
part_at path a q at within is =
    let long = passed_le at path (a ++ q) within is in
    let first : leb at (at + length a) ≡ true = le-leb at (at + length a) (omega arith) in
    let second : leb (at + length a) (length path) ≡ true = le-leb (at + length a) (length path) (omega (arith, long, length-append a q)) in
    let size : at + length a - at ≡ length a = omega arith in
    rw (first, second) (ap₂ (λ (n : ℕ) (l : List ℕ). take n l) size is ∙ take_front a q)

-- the end of a parameter before a slash
stop_at_slash : (p path t a q : List ℕ) (token at : ℕ) → token ≤ length p → drop token p ≡ 256 ∷ 47 ∷ t → at ≤ length path
    → drop at path ≡ a ++ 47 ∷ q → has_slash a ≡ false → wild_stop p token path at ≡ at + length a
stop_at_slash p path t a q token at known tokens within is plain =
    let long = passed_le token p (256 ∷ 47 ∷ t) known tokens in
    let head : get_or (drop token p) 0 0 ≡ 256 = ap (λ (l : List ℕ). get_or l 0 0) tokens in
    let here : get_or p token 0 ≡ 256 = subst (λ (n : ℕ). get_or p n 0 ≡ 256) (omega arith) (sym (get_or-drop token p 0 0) ∙ head) in
    let inside : ltb token (length p) ≡ true = lt-ltb token (length p) (omega (arith, long)) in
    let more : ltb (token + 1) (length p) ≡ true = lt-ltb (token + 1) (length p) (omega (arith, long)) in
    let next : drop (token + 1) p ≡ 47 ∷ t = drop_on token p (256 ∷ []) (47 ∷ t) tokens in
    let seg : segment (drop at path) ≡ a ++ 47 ∷ [] = ap segment is ∙ segment_plain a q plain in
    let size : length (segment (drop at path)) ≡ length a + 1 = ap length seg ∙ length-append a (47 ∷ []) in
    rw (inside, here, more, next) (omega (arith, size))

-- the end of the last parameter
stop_at_end : (p path : List ℕ) (token at : ℕ) → token ≤ length p → drop token p ≡ 256 ∷ [] → wild_stop p token path at ≡ length path
stop_at_end p path token at known tokens =
    let long = passed_le token p (256 ∷ []) known tokens in
    let none : ltb (token + 1) (length p) ≡ false = le-ltb (token + 1) (length p) (omega (arith, long)) in
    at_end (ltb token (length p) && (get_or p token 0 == 256)) none
  where
    at_end : (b : Bool) → ltb (token + 1) (length p) ≡ false
        → cond (ltb token (length p) && (get_or p token 0 == param_token) && ltb (token + 1) (length p))
        (at + length (segment (drop at path)) - length (segment (drop (token + 1) p))) (length path) ≡ length path
    at_end b none = rw none (both (ltb token (length p)) (get_or p token 0 == param_token))
      where
        both : (x y : Bool) → cond (x && y && false) (at + length (segment (drop at path)) - length (segment (drop (token + 1) p))) (length path) ≡ length path
        both true true = refl
        both true false = refl
        both false y = refl

-- the first of the remaining parameters, with a slash after it
walk_next : (p text path w t a q : List ℕ) (name : ℕ × ℕ) (names : List (ℕ × ℕ)) (token at : ℕ) → are_bytes w ≡ true
    → token ≤ length p → length p < 100 → drop token p ≡ w ++ (256 ∷ 47 ∷ t) → at ≤ length path → drop at path ≡ w ++ (a ++ 47 ∷ q)
    → has_slash a ≡ false
    → walk p text path (name ∷ names) token at
    ≡ (part_of text name.0 name.1, a) ∷ walk p text path names (token + length w + 1) (at + length w + length a)
walk_next p text path w t a q name names token at bytes known short tokens within is plain =
    let here = wild_at p path w (47 ∷ t) (a ++ 47 ∷ q) token at bytes tokens within is in
    let pattern = passed_le token p (w ++ (256 ∷ 47 ∷ t)) known tokens in
    let text_long = passed_le at path (w ++ (a ++ 47 ∷ q)) within is in
    let pattern_parts = length-append w (256 ∷ 47 ∷ t) in
    let text_parts = length-append w (a ++ 47 ∷ q) in
    let tokens_on = drop_on token p w (256 ∷ 47 ∷ t) tokens in
    let text_on = drop_on at path w (a ++ 47 ∷ q) is in
    let inside : at + length w ≤ length path = omega (arith, text_long, text_parts) in
    let stop = stop_at_slash p path t a q (token + length w) (at + length w) (omega (arith, pattern, pattern_parts)) tokens_on inside text_on plain in
    let taken = part_at path a (47 ∷ q) (at + length w) inside text_on in
    let after : after_token (token + length w) ≡ token + length w + 1 = omega (arith, pattern, pattern_parts) in
    rw (here, stop, taken, after) refl

-- the last parameter
walk_last : (p text path w a : List ℕ) (name : ℕ × ℕ) (token at : ℕ) → are_bytes w ≡ true → token ≤ length p
    → drop token p ≡ w ++ (256 ∷ []) → at ≤ length path → drop at path ≡ w ++ a
    → walk p text path (name ∷ []) token at ≡ (part_of text name.0 name.1, a) ∷ []
walk_last p text path w a name token at bytes known tokens within is =
    let here = wild_at p path w [] a token at bytes tokens within is in
    let pattern = passed_le token p (w ++ (256 ∷ [])) known tokens in
    let text_long = passed_le at path (w ++ a) within is in
    let pattern_parts = length-append w (256 ∷ []) in
    let text_parts = length-append w a in
    let tokens_on = drop_on token p w (256 ∷ []) tokens in
    let text_on = drop_on at path w a is in
    let inside : at + length w ≤ length path = omega (arith, text_long, text_parts) in
    let stop = stop_at_end p path (token + length w) (at + length w) (omega (arith, pattern, pattern_parts)) tokens_on in
    let all : length path ≡ at + length w + length a = omega (arith, text_long, text_parts) in
    let taken = part_at path a [] (at + length w) inside (text_on ∙ sym (append-nil a)) in
    let to_end : part_of path (at + length w) (length path) ≡ a = ap (part_of path (at + length w)) all ∙ taken in
    rw (here, stop, to_end) refl

-- ---- two parameters, and three

-- a part of a path, up to the next slash, and the rest after it
abbrev part : List ℕ → List ℕ
part q = before_first (λ b. b == 47) q

abbrev rest : List ℕ → List ℕ
rest q = after_first (λ b. b == 47) q

-- the rest after a word, and the values of two parameters
pub record AreTwo (w text path : List ℕ) (one two : ℕ × ℕ) : Type 0 where
  pub q : List ℕ
  pub is : path ≡ w ++ q
  pub walked : walk (w ++ (256 ∷ 47 ∷ 256 ∷ [])) text path (one ∷ two ∷ []) 0 0
      ≡ (part_of text one.0 one.1, part q) ∷ (part_of text two.0 two.1, part (rest q)) ∷ []

-- two parameters have the two parts after a word as values
pub two_parts : (w text path : List ℕ) (one two : ℕ × ℕ) → are_bytes w ≡ true → length w < 90
    → Takes (w ++ (256 ∷ 47 ∷ 256 ∷ [])) path → AreTwo w text path one two
two_parts w text path one two bytes short takes =
    let p = w ++ (256 ∷ 47 ∷ 256 ∷ []) in
    let front = takes_word w (256 ∷ 47 ∷ 256 ∷ []) path bytes takes in
    let first = takes_param (47 ∷ 256 ∷ []) front.0 front.2 in
    let behind = takes_word (47 ∷ []) (256 ∷ []) first.1 refl first.4 in
    let last = takes_param [] behind.0 behind.2 in
    let a = first.0 in
    let b = last.0 in
    let b_is : behind.0 ≡ b = last.2 ∙ ap (λ (l : List ℕ). b ++ l) last.4 ∙ append-nil b in
    let q = a ++ 47 ∷ b in
    let is : path ≡ w ++ q = front.1 ∙ ap (λ (l : List ℕ). w ++ l) (first.2 ∙ ap (λ (l : List ℕ). a ++ l) (behind.1 ∙ ap (λ (l : List ℕ). 47 ∷ l) b_is)) in
    let tokens_long = length-append w (256 ∷ 47 ∷ 256 ∷ []) in
    let path_long = ap length is ∙ length-append w q in
    let q_long = length-append a (47 ∷ b) in
    let tokens_on = drop_on 0 p w (256 ∷ 47 ∷ 256 ∷ []) refl in
    let path_on = drop_on 0 path w q is in
    let step = walk_next p text path w (256 ∷ []) a b one (two ∷ []) 0 0 bytes (omega arith)
    (omega (arith, tokens_long, short)) refl (omega arith) is first.3 in
    let end = walk_last p text path (47 ∷ []) b two (0 + length w + 1) (0 + length w + length a) refl (omega (arith, tokens_long))
    (drop_on (0 + length w) p (256 ∷ []) (47 ∷ 256 ∷ []) tokens_on) (omega (arith, path_long, q_long))
    (drop_on (0 + length w) path a (47 ∷ b) path_on) in
    let first_is : a ≡ part q = sym (part_is a b first.3) in
    let second_is : b ≡ part (rest q) = sym (ap part (rest_is a b first.3) ∙ last_part_is b last.3) in
    record {
      q = q;
      is = is;
      walked = step ∙ ap (λ (l : List (List ℕ × List ℕ)). (part_of text one.0 one.1, a) ∷ l) end
          ∙ ap₂ (λ (x y : List ℕ). (part_of text one.0 one.1, x) ∷ (part_of text two.0 two.1, y) ∷ []) first_is second_is;
    }

-- the rest after a word, and the values of three parameters
pub record AreThree (w text path : List ℕ) (one two three : ℕ × ℕ) : Type 0 where
  pub q : List ℕ
  pub is : path ≡ w ++ q
  pub walked : walk (w ++ (256 ∷ 47 ∷ 256 ∷ 47 ∷ 256 ∷ [])) text path (one ∷ two ∷ three ∷ []) 0 0
      ≡ (part_of text one.0 one.1, part q) ∷ (part_of text two.0 two.1, part (rest q)) ∷ (part_of text three.0 three.1, part (rest (rest q))) ∷ []

-- three names, each with an equal text
other_texts : (one two three : List ℕ) {a b c x y z : List ℕ} → a ≡ x → b ≡ y → c ≡ z
    → ◌≡◌ {A = List (List ℕ × List ℕ)} ((one, a) ∷ (two, b) ∷ (three, c) ∷ []) ((one, x) ∷ (two, y) ∷ (three, z) ∷ [])
other_texts one two three first second third = (λ i. (one, first i) ∷ (two, second i) ∷ (three, third i) ∷ [])

-- three parameters have the three parts after a word as values
pub three_parts : (w text path : List ℕ) (one two three : ℕ × ℕ) → are_bytes w ≡ true → length w < 90
    → Takes (w ++ (256 ∷ 47 ∷ 256 ∷ 47 ∷ 256 ∷ [])) path → AreThree w text path one two three
three_parts w text path one two three bytes short takes =
    let p = w ++ (256 ∷ 47 ∷ 256 ∷ 47 ∷ 256 ∷ []) in
    let front = takes_word w (256 ∷ 47 ∷ 256 ∷ 47 ∷ 256 ∷ []) path bytes takes in
    let first = takes_param (47 ∷ 256 ∷ 47 ∷ 256 ∷ []) front.0 front.2 in
    let behind = takes_word (47 ∷ []) (256 ∷ 47 ∷ 256 ∷ []) first.1 refl first.4 in
    let second = takes_param (47 ∷ 256 ∷ []) behind.0 behind.2 in
    let later = takes_word (47 ∷ []) (256 ∷ []) second.1 refl second.4 in
    let last = takes_param [] later.0 later.2 in
    let a = first.0 in
    let b = second.0 in
    let c = last.0 in
    let c_is : later.0 ≡ c = last.2 ∙ ap (λ (l : List ℕ). c ++ l) last.4 ∙ append-nil c in
    let bc_is : behind.0 ≡ b ++ 47 ∷ c = second.2 ∙ ap (λ (l : List ℕ). b ++ l) (later.1 ∙ ap (λ (l : List ℕ). 47 ∷ l) c_is) in
    let q = a ++ 47 ∷ (b ++ 47 ∷ c) in
    let is : path ≡ w ++ q = front.1 ∙ ap (λ (l : List ℕ). w ++ l) (first.2 ∙ ap (λ (l : List ℕ). a ++ l) (behind.1 ∙ ap (λ (l : List ℕ). 47 ∷ l) bc_is)) in
    let tokens_long = length-append w (256 ∷ 47 ∷ 256 ∷ 47 ∷ 256 ∷ []) in
    let path_long = ap length is ∙ length-append w q in
    let q_long = length-append a (47 ∷ (b ++ 47 ∷ c)) in
    let bc_long = length-append b (47 ∷ c) in
    let tokens_on = drop_on 0 p w (256 ∷ 47 ∷ 256 ∷ 47 ∷ 256 ∷ []) refl in
    let path_on = drop_on 0 path w q is in
    let tokens_2 = drop_on (0 + length w) p (256 ∷ []) (47 ∷ 256 ∷ 47 ∷ 256 ∷ []) tokens_on in
    let path_2 = drop_on (0 + length w) path a (47 ∷ (b ++ 47 ∷ c)) path_on in
    let tokens_3 = drop_on (0 + length w + 1 + 1) p (256 ∷ []) (47 ∷ 256 ∷ []) (drop_on (0 + length w + 1) p (47 ∷ []) (256 ∷ 47 ∷ 256 ∷ []) tokens_2) in
    let path_3 = drop_on (0 + length w + length a + 1) path b (47 ∷ c) (drop_on (0 + length w + length a) path (47 ∷ []) (b ++ 47 ∷ c) path_2) in
    let step = walk_next p text path w (256 ∷ 47 ∷ 256 ∷ []) a (b ++ 47 ∷ c) one (two ∷ three ∷ []) 0 0 bytes (omega arith)
    (omega (arith, tokens_long, short)) refl (omega arith) is first.3 in
    let step_2 = walk_next p text path (47 ∷ []) (256 ∷ []) b c two (three ∷ []) (0 + length w + 1) (0 + length w + length a) refl
    (omega (arith, tokens_long)) (omega (arith, tokens_long, short)) tokens_2 (omega (arith, path_long, q_long)) path_2 second.3 in
    let end = walk_last p text path (47 ∷ []) c three (0 + length w + 1 + 1 + 1) (0 + length w + length a + 1 + length b) refl
    (omega (arith, tokens_long)) tokens_3 (omega (arith, path_long, q_long, bc_long)) path_3 in
    let first_is : a ≡ part q = sym (part_is a (b ++ 47 ∷ c) first.3) in
    let rest_first : rest q ≡ b ++ 47 ∷ c = rest_is a (b ++ 47 ∷ c) first.3 in
    let second_is : b ≡ part (rest q) = sym (ap part rest_first ∙ part_is b c second.3) in
    let third_is : c ≡ part (rest (rest q)) = sym (ap (λ (l : List ℕ). part (rest l)) rest_first ∙ ap part (rest_is b c second.3) ∙ last_part_is c last.3) in
    record {
      q = q;
      is = is;
      walked = step
          ∙ ap (λ (l : List (List ℕ × List ℕ)). (part_of text one.0 one.1, a) ∷ l)
          (step_2 ∙ ap (λ (l : List (List ℕ × List ℕ)). (part_of text two.0 two.1, b) ∷ l) end)
          ∙ other_texts (part_of text one.0 one.1) (part_of text two.0 two.1) (part_of text three.0 three.1) first_is second_is third_is;
    }
