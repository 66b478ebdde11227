-- The route that `matchit` finds for a path is one of the rows, and its tokens match the path.
use Rattle.std.proofs.Common.{◌≡◌, ℕ, zero, suc, ◌+◌, ◌-◌, ◌<◌, ◌≤◌, ◌⊎◌, inl, inr, Bool, true, false, cond, ◌&&◌, ◌==◌, ltb, List, [], ◌∷◌, ◌++◌, length}
use Rattle.std.proofs.Common.{take, drop, Option, Some, None, sym, ap, ap₂, subst, ◌∙◌, refl, arith}
use Rattle.std.specs.List.{ends_with}
use Rattle.std.proofs.lemmas.List.{take-append-drop, take_all}
use Rattle.std.proofs.lemmas.Bool.{ltb-true, eqb-true}
use Rattle.matchit.specs.Rows.{RowsOf, param_token, catch_all_token}
use Rattle.matchit.specs.Seek.{seek, own, step, or_else, segment, has_slash, slash, same_text, cuts, better, longest_from, longest_suffix, with_suffix}
use Rattle.matchit.specs.Seek.{param_step}
use Rattle.matchit.proofs.ConflictLemmas.{and-cases}
use Rattle.matchit.proofs.CountLemmas.{some-segment}

-- the tokens of a row match the path: each byte itself, and a parameter a part without a slash
abbrev pub Takes : List ℕ → List ℕ → Type 0
Takes [] path = path ≡ []
Takes (x ∷ tokens) path =
    ((more : List ℕ) × (path ≡ x ∷ more) × Takes tokens more)
    ⊎ (((x ≡ param_token) × ((a : List ℕ) × (more : List ℕ) × (path ≡ a ++ more) × (has_slash a ≡ false) × Takes tokens more))
    ⊎ (x ≡ catch_all_token))

-- a prefix that is shorter than the segment has no slash
no_slash_behind : (n b : ℕ) (path : List ℕ) → (n < length (segment path) → has_slash (take n path) ≡ false) → (slashed : Bool)
    → suc n < length (cond slashed (b ∷ []) (b ∷ segment path)) → cond slashed true (has_slash (take n path)) ≡ false
no_slash_behind n b path behind true short = absurd (omega (arith, short))
no_slash_behind n b path behind false short = behind (omega (arith, short))

no_slash : (n : ℕ) (path : List ℕ) → n < length (segment path) → has_slash (take n path) ≡ false
no_slash zero path short = refl
no_slash (suc n) [] short = absurd (omega (arith, short))
no_slash (suc n) (b ∷ path) short = no_slash_behind n b path (λ less. no_slash n path less) (b == slash) short

-- a suffix is shorter than its segment
longest_short : {K : Type 0} (seg best : List ℕ) (rows : RowsOf K) → length best < length seg → length (longest_from seg best rows) < length seg
longest_short seg best [] short = short
longest_short seg best ((t, k) ∷ rows) short =
    longest_short seg (better seg best (segment t)) rows
    (at (ltb (length best) (length (segment t)) && cuts seg (segment t)) refl)
  where
    at : (b : Bool) → (ltb (length best) (length (segment t)) && cuts seg (segment t)) ≡ b → length (cond b (segment t) best) < length seg
    at false e = short
    at true e =
        let cut = (and-cases (ltb (length best) (length (segment t))) (cuts seg (segment t)) e).1 in
        ltb-true (length (segment t)) (length seg) (and-cases (ltb (length (segment t)) (length seg)) (ends_with _ seg (segment t)) cut).0

module _ {K : Type 0} where
  -- the row is one of these
  abbrev pub Stands : List ℕ → K → RowsOf K → Type 0
  Stands tokens key [] = ⊥
  Stands tokens key ((t, k) ∷ rows) = ((t ≡ tokens) × (k ≡ key)) ⊎ Stands tokens key rows

  -- the route that ends here is a row without tokens
  own_stands : (rows : RowsOf K) (key : K) → own rows ≡ Some key → Stands [] key rows
  own_stands [] key e = absurd cc
  own_stands (([], k) ∷ rows) key e = inl (refl, cc)
  own_stands ((x ∷ t, k) ∷ rows) key e = inr (own_stands rows key e)

  -- the first token of a row is the byte, or not
  step_one : (b x : ℕ) (t : List ℕ) (k : K) (rows : RowsOf K) (tokens : List ℕ) (key : K)
      → (Stands tokens key (step b rows) → Stands (b ∷ tokens) key rows) → (same : Bool) → (x == b) ≡ same
      → Stands tokens key (cond same ((t, k) ∷ step b rows) (step b rows)) → Stands (b ∷ tokens) key ((x ∷ t, k) ∷ rows)
  step_one b x t k rows tokens key later true e (inl here) = inl (ap₂ (λ (y : ℕ) (l : List ℕ). y ∷ l) (eqb-true x b e) here.0, here.1)
  step_one b x t k rows tokens key later true e (inr stands) = inr (later stands)
  step_one b x t k rows tokens key later false e stands = inr (later stands)

  -- a row that continues after the byte is one that begins with it
  step_stands : (b : ℕ) (rows : RowsOf K) (tokens : List ℕ) (key : K) → Stands tokens key (step b rows) → Stands (b ∷ tokens) key rows
  step_stands b [] tokens key stands = stands
  step_stands b (([], k) ∷ rows) tokens key stands = inr (step_stands b rows tokens key stands)
  step_stands b ((x ∷ t, k) ∷ rows) tokens key stands =
      step_one b x t k rows tokens key (λ later. step_stands b rows tokens key later) (x == b) refl stands

  -- a row has the suffix, or not
  suffix_one : (suffix t : List ℕ) (k : K) (rows : RowsOf K) (tokens : List ℕ) (key : K)
      → (Stands tokens key (with_suffix suffix rows) → Stands tokens key rows) → (same : Bool)
      → Stands tokens key (cond same ((t, k) ∷ with_suffix suffix rows) (with_suffix suffix rows)) → Stands tokens key ((t, k) ∷ rows)
  suffix_one suffix t k rows tokens key later true (inl here) = inl here
  suffix_one suffix t k rows tokens key later true (inr stands) = inr (later stands)
  suffix_one suffix t k rows tokens key later false stands = inr (later stands)

  -- a row with the suffix is one of them
  suffix_stands : (suffix : List ℕ) (rows : RowsOf K) (tokens : List ℕ) (key : K) → Stands tokens key (with_suffix suffix rows)
      → Stands tokens key rows
  suffix_stands suffix [] tokens key stands = stands
  suffix_stands suffix ((t, k) ∷ rows) tokens key stands =
      suffix_one suffix t k rows tokens key (λ later. suffix_stands suffix rows tokens key later) (same_text (segment t) suffix) stands

  -- the part that a parameter matches
  pub record IsTaken (rows : RowsOf K) (path : List ℕ) (tokens : List ℕ) (key : K) (n : ℕ) : Type 0 where
    pub some : 0 < n
    pub plain : has_slash (take n path) ≡ false
    pub stands : Stands tokens key rows

  -- the step of a parameter, from tests of the segment and of the path
  abbrev step_by : Bool → Bool → RowsOf K → List ℕ → ℕ × RowsOf K
  step_by long slashed rows path =
      cond long (
        length (segment path) - length (longest_suffix (segment path) rows),
        with_suffix (longest_suffix (segment path) rows) rows,
      )
      (cond slashed (0, []) (length path, rows))

  -- a parameter matches some bytes without a slash, and a row continues after it
  taken_by : (rows : RowsOf K) (b : ℕ) (path : List ℕ) (tokens : List ℕ) (key : K) (long : Bool)
      → ltb 0 (length (longest_suffix (segment (b ∷ path)) rows)) ≡ long → (slashed : Bool) → has_slash (b ∷ path) ≡ slashed
      → Stands tokens key (step_by long slashed rows (b ∷ path)).1 → IsTaken rows (b ∷ path) tokens key (step_by long slashed rows (b ∷ path)).0
  taken_by rows b path tokens key true long slashed e stands =
      let suffix = longest_suffix (segment (b ∷ path)) rows in
      let some : 0 < length suffix = ltb-true 0 (length suffix) long in
      let long_segment : 0 < length (segment (b ∷ path)) = some-segment b path in
      let short : length suffix < length (segment (b ∷ path)) = longest_short (segment (b ∷ path)) [] rows long_segment in
      record {
        some = omega (arith, short);
        plain = no_slash (length (segment (b ∷ path)) - length suffix) (b ∷ path) (omega (arith, some, long_segment));
        stands = suffix_stands suffix rows tokens key stands;
      }
  taken_by rows b path tokens key false long true e stands = absurd stands
  taken_by rows b path tokens key false long false e stands = record {
    some = omega arith;
    plain = ap has_slash (take_all (length (b ∷ path)) (b ∷ path) (omega arith)) ∙ e;
    stands = stands;
  }

  -- the same, as the walk steps
  taken : (rows : RowsOf K) (b : ℕ) (path : List ℕ) (tokens : List ℕ) (key : K) → Stands tokens key (param_step rows (b ∷ path)).1
      → IsTaken rows (b ∷ path) tokens key (param_step rows (b ∷ path)).0
  unfolding param_step
  taken rows b path tokens key stands =
      taken_by rows b path tokens key (ltb 0 (length (longest_suffix (segment (b ∷ path)) rows))) refl (has_slash (b ∷ path)) refl stands

  -- the route that is found
  pub record IsFound (rows : RowsOf K) (path : List ℕ) (key : K) : Type 0 where
    pub tokens : List ℕ
    pub stands : Stands tokens key rows
    pub takes : Takes tokens path

  -- found after a byte
  by_byte : (rows : RowsOf K) (b : ℕ) (path : List ℕ) (key : K) → IsFound (step b rows) path key → IsFound rows (b ∷ path) key
  by_byte rows b path key found = record {
    tokens = b ∷ found.tokens;
    stands = step_stands b rows found.tokens key found.stands;
    takes = inl (path, refl, found.takes);
  }

  -- found after a parameter
  by_param : (rows : RowsOf K) (b : ℕ) (path : List ℕ) (key : K)
      → IsFound (param_step (step param_token rows) (b ∷ path)).1 (drop ((param_step (step param_token rows) (b ∷ path)).0 - 1) path) key
      → IsFound rows (b ∷ path) key
  by_param rows b path key found =
      let n = (param_step (step param_token rows) (b ∷ path)).0 in
      let is = taken (step param_token rows) b path found.tokens key found.stands in
      let next : suc (n - 1) ≡ n = omega (arith, is.some) in
      let rest : drop (n - 1) path ≡ drop n (b ∷ path) = ap (λ (m : ℕ). drop m (b ∷ path)) next in
      record {
        tokens = param_token ∷ found.tokens;
        stands = step_stands param_token rows found.tokens key is.stands;
        takes = inr (inl (
          refl,
          (
            take n (b ∷ path),
            drop n (b ∷ path),
            sym (take-append-drop n (b ∷ path)),
            is.plain,
            subst (λ (l : List ℕ). Takes found.tokens l) rest found.takes,
          ),
        ));
      }

  -- found by a catch-all parameter
  by_catch : (rows : RowsOf K) (b : ℕ) (path : List ℕ) (key : K) → own (step catch_all_token rows) ≡ Some key → IsFound rows (b ∷ path) key
  by_catch rows b path key e = record {
    tokens = catch_all_token ∷ [];
    stands = step_stands catch_all_token rows [] key (own_stands (step catch_all_token rows) key e);
    takes = inr (inr refl);
  }

  -- a route is found by the byte, by a parameter, or by a catch-all parameter
  found_one : (rows : RowsOf K) (b : ℕ) (path : List ℕ) (key : K)
      → (seek 0 (step b rows) path ≡ Some key → IsFound (step b rows) path key)
      → (seek ((param_step (step param_token rows) (b ∷ path)).0 - 1) (param_step (step param_token rows) (b ∷ path)).1 path ≡ Some key
      → IsFound (param_step (step param_token rows) (b ∷ path)).1 (drop ((param_step (step param_token rows) (b ∷ path)).0 - 1) path) key)
      → (seek 0 (step b rows) path ≡ Some key)
      ⊎ ((seek ((param_step (step param_token rows) (b ∷ path)).0 - 1) (param_step (step param_token rows) (b ∷ path)).1 path ≡ Some key)
      ⊎ (own (step catch_all_token rows) ≡ Some key)) → IsFound rows (b ∷ path) key
  found_one rows b path key byte param (inl e) = by_byte rows b path key (byte e)
  found_one rows b path key byte param (inr (inl e)) = by_param rows b path key (param e)
  found_one rows b path key byte param (inr (inr e)) = by_catch rows b path key e

  -- the first result of three is one of them
  three_cases : (x y z : Option K) (key : K) → or_else x (or_else y z) ≡ Some key → (x ≡ Some key) ⊎ ((y ≡ Some key) ⊎ (z ≡ Some key))
  three_cases (Some k) y z key e = inl e
  three_cases None (Some k) z key e = inr (inl e)
  three_cases None None z key e = inr (inr e)

  -- the walk finds a row whose tokens match the path
  pub found_route : (skip : ℕ) (rows : RowsOf K) (path : List ℕ) (key : K) → seek skip rows path ≡ Some key → IsFound rows (drop skip path) key
  unfolding seek
  found_route zero rows [] key e = record { tokens = []; stands = own_stands rows key e; takes = refl }
  found_route (suc skip) rows [] key e = record { tokens = []; stands = own_stands rows key e; takes = refl }
  found_route (suc skip) rows (b ∷ path) key e = found_route skip rows path key e
  found_route zero rows (b ∷ path) key e =
      found_one rows b path key
      (λ byte. found_route 0 (step b rows) path key byte)
      (λ param. found_route ((param_step (step param_token rows) (b ∷ path)).0 - 1) (param_step (step param_token rows) (b ∷ path)).1 path key param)
      (three_cases (seek 0 (step b rows) path)
      (seek ((param_step (step param_token rows) (b ∷ path)).0 - 1) (param_step (step param_token rows) (b ∷ path)).1 path)
      (own (step catch_all_token rows)) key e)
