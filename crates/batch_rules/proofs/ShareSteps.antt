use Rattle.std.proofs.Common.{◌≡◌, ℕ, ◌+◌, ◌<◌, ◌≤◌, Bool, true, false, cond}
use Rattle.std.proofs.Common.{Some, None, List, [], ◌∷◌, ◌++◌, length, take, get_or, filter}
use Rattle.std.proofs.Common.{refl, sym, ap, ◌∙◌, inl, inr, arith}
use Rattle.std.proofs.lemmas.Bool.{cases_Bool}
use Rattle.std.proofs.lemmas.List.{append-nil, append_assoc}
use Rattle.std.proofs.lemmas.List.Elements.{filter-append}
use Rattle.list_words.specs.Order.{put_in_order, put_each}
use Rattle.fact_kinds.specs.declared.body.FactBody.{FactBody}
use Rattle.fact_kinds.specs.Facts.{Entry, goes_first, key_of, entries_from}
use Rattle.fact_kinds.specs.Named.{component_of}
use Rattle.fact_kinds.specs.Stated.{Stated}
use Rattle.fact_store.specs.Kept.{facts_in}
use Rattle.ldar_law.proofs.ShareLemmas.{one_more_fact_counts, other_facts_count_nothing}
use Rattle.ldar_law.specs.Judged.{register_with}
use Rattle.ldar_law.specs.Slices.{is_registered, register_facts}
use Rattle.batch_rules.specs.declared.known_facts.Known.{Known}
use Rattle.batch_rules.specs.Known.{batch_of, register_by}
use Rattle.batch_rules.specs.Shares.{added, changed, share_in}
use Rattle.batch_rules.proofs.EntryLemmas.{entries-take_more}

-- ---- a fact that is no entry does not change the register

-- an insertion that fails the filter does not change the filtered list
put_out : (q : Entry → Bool) (e : Entry) → q e ≡ false → (es : List Entry) → filter q (put_in_order goes_first e es) ≡ filter q es
put_out q e out [] = rw out refl
put_out q e out (x ∷ xs) =
    elim (cases_Bool (goes_first e x)) [
      | inl t ↦ rw (t, out) refl
      | inr t ↦ rw (t, put_out q e out xs) refl
    ]

-- the last of several insertions
put_last : (more ys : List Entry) (e : Entry) → put_each goes_first (more ++ e ∷ []) ys ≡ put_in_order goes_first e (put_each goes_first more ys)
put_last [] ys e = refl
put_last (x ∷ xs) ys e = put_last xs (put_in_order goes_first x ys) e

-- the register is unchanged by a fact that is no entry
pub register_stays : (held more : List Entry) (e : Entry) → is_registered e.1.body ≡ false → register_with held (more ++ e ∷ []) ≡ register_with held more
unfolding register_with
register_stays held more e out =
    let entered : register_facts (held ++ (more ++ e ∷ [])) ≡ register_facts (held ++ more) =
    ap register_facts (sym (append_assoc {A = Entry} held more (e ∷ [])))
    ∙ filter-append (λ x. is_registered x.1.body) (held ++ more) (e ∷ [])
    ∙ rw out (append-nil (register_facts (held ++ more))) in
    let order : register_facts (put_each goes_first (more ++ e ∷ []) held) ≡ register_facts (put_each goes_first more held) =
    ap register_facts (put_last more held e) ∙ put_out (λ x. is_registered x.1.body) e out (put_each goes_first more held) in
    rw (entered, order) refl

-- ---- the share with one more fact

-- the reach is at most the number of facts so far
pub reach_within : (b : Bool) (index reach : ℕ) → reach ≤ index → cond b (index + 1) reach ≤ index + 1
reach_within true index reach within = omega arith
reach_within false index reach within = omega (arith, within)

-- a fact that changes a component has its number
pub named_so : (body : FactBody) (number : ℕ) → changed body ≡ Some number → component_of body ≡ Some number
named_so body number e =
    elim (cases_Bool (is_registered body)) [
      | inl entered ↦ rw entered at e
      | inr out ↦ let clash : None ≡ Some number = rw out at e in absurd cc
    ]

module _ (unit day : ℕ) (known : Known) (index : ℕ) (fact : Stated) (within : index < length known.front.now)
    (is : fact ≡ get_or known.front.now index fact) where
  -- the register with one more fact
  one_more : register_by known (index + 1)
      ≡ register_with (facts_in known.register.now)
      (entries_from (batch_of known) 0 (take index known.front.now) ++ (key_of (batch_of known) index fact, fact) ∷ [])
  one_more = ap (register_with (facts_in known.register.now)) (entries-take_more (batch_of known) index known.front.now fact within is)

  -- a fact that is no entry does not change what is known
  pub known_stays : is_registered fact.body ≡ false → register_by known (index + 1) ≡ register_by known index
  known_stays out =
      one_more
      ∙ register_stays (facts_in known.register.now) (entries_from (batch_of known) 0 (take index known.front.now))
      (key_of (batch_of known) index fact, fact) out

  -- the facts up to the last entry give the same register as all before a place
  pub reach_stays : (reach : ℕ) → register_by known reach ≡ register_by known index
      → register_by known (cond (is_registered fact.body) (index + 1) reach) ≡ register_by known (index + 1)
  reach_stays reach same = elim (cases_Bool (is_registered fact.body)) [
    | inl entered ↦ rw entered refl
    | inr out ↦ rw out (same ∙ sym (known_stays out))
  ]

  -- a fact that changes no component does not change the share
  pub share_same : changed fact.body ≡ None → share_in unit day (register_by known (index + 1)) ≡ share_in unit day (register_by known index)
  share_same e =
      let held = facts_in known.register.now in
      let more = entries_from (batch_of known) 0 (take index known.front.now) in
      let entry : Entry = (key_of (batch_of known) index fact, fact) in
      ap (share_in unit day) one_more
      ∙ elim (cases_Bool (is_registered fact.body)) [
        | inr out ↦ ap (share_in unit day) (register_stays held more entry out)
        | inl entered ↦
            let unnamed : component_of fact.body ≡ None = rw entered at e in
            let counts = other_facts_count_nothing unit day held more entry unnamed in
            rw (counts.0, counts.1) refl
      ]

  -- a fact that changes a component changes the share by that component's part
  pub share_changes : (number : ℕ) → changed fact.body ≡ Some number
      → ((share_in unit day (register_by known (index + 1))).valves + (added unit day (register_by known index) number).valves
      ≡ (share_in unit day (register_by known index)).valves + (added unit day (register_by known (index + 1)) number).valves)
      × ((share_in unit day (register_by known (index + 1))).difficult + (added unit day (register_by known index) number).difficult
      ≡ (share_in unit day (register_by known index)).difficult + (added unit day (register_by known (index + 1)) number).difficult)
  share_changes number e =
      let held = facts_in known.register.now in
      let more = entries_from (batch_of known) 0 (take index known.front.now) in
      let entry : Entry = (key_of (batch_of known) index fact, fact) in
      let named = named_so fact.body number e in
      let counts = one_more_fact_counts unit day number held more entry named in
      rw one_more (counts.0, counts.1)
