-- Calls of a filing, and the map that answers them.
use Rattle.std.proofs.Common.{◌≡◌, ◌&&◌, ℕ, zero, suc, ◌+◌, ◌<◌, Bool, true, false, cond, nat_eq, Option, Some, None, Result, Ok, Err, IfOk, List, [], ◌∷◌}
use Rattle.std.proofs.Common.{◌++◌, filter, length, take, get_or, refl, sym, ap, ◌∙◌, subst, inl, inr, OnErr, Contains, ◌≤◌, arith}
use Rattle.std.specs.Prelude.{find, slice_get}
use Rattle.std.specs.List.{last_or}
use Rattle.std.specs.Option.{option_or}
use Rattle.std.proofs.lemmas.Bool.{cases_Bool}
use Rattle.std.proofs.lemmas.Bool.Decides.{nat_tests}
use Rattle.std.proofs.lemmas.List.{append-nil, take_more}
use Rattle.std.proofs.lemmas.List.Elements.{Contains-push_cases}
use Rattle.disk_model.specs.Faults.{Rose}
use Rattle.disk_model.specs.Told.{Told, BothTold}
use Rattle.disk_model.proofs.ToldLemmas.{BothTold-joins, BothTold-weaker, Rose-longer, Told-weaker}
use Rattle.list_words.specs.Words.{last_such}
use Rattle.list_words.proofs.WordLemmas.{last_such-cons}
use Rattle.ldar_law.specs.declared.report.Cells.{Cells}
use Rattle.ldar_law.specs.declared.report.Filed.{Filed}
use Rattle.report_filing.specs.declared.calls.FilingAnswer.{FilingAnswer}
use Rattle.report_filing.specs.declared.calls.FilingAnswer.TheVariants as answer
use Rattle.report_filing.specs.declared.calls.FilingCall.{FilingCall}
use Rattle.report_filing.specs.declared.calls.FilingCall.TheVariants as call
use Rattle.report_filing.specs.declared.file.TheConstants.{LAST_REVISION}
use Rattle.report_filing.specs.declared.filing.FilingFault.{FilingFault}
use Rattle.report_filing.specs.declared.filing.FilingFault.TheVariants.{Failed}
use Rattle.report_filing.specs.Calls.{ReportMap, map_of, numbered, number_after, HasOneMore, AnswersCall, AnswersCalls, AnswersSome, AnswersPut, IsNextOf, found_or_fault}
use Rattle.report_filing.specs.Revisions.{is_filed_for, revisions, latest_of, revision_of, CountFrom, AreNumbered, IsNext}
use Rattle.report_filing.proofs.RevisionLemmas.{revisions_put, last_counted, after}

-- ---- the last report, and the report with a number

-- the last item, or else the one before
or_some : {X : Type 0} (last : Option X) (x : X) (before : Option X) → option_or (option_or last (Some x)) before ≡ option_or last (Some x)
or_some None x before = refl
or_some (Some last) x before = refl

-- `None` as the item before
or_none : {X : Type 0} (last : Option X) → option_or last None ≡ last
or_none None = refl
or_none (Some last) = refl

-- the last item that passes, or else the one before, is the last that passes
last_passing : {X : Type 0} (p : X → Bool) (before : Option X) (all : List X) → last_or before (filter p all) ≡ option_or (last_such p all) before
last_passing p before [] = refl
last_passing p before (x ∷ xs) = elim (cases_Bool (p x)) [
  | inl passes ↦ rw (last_such-cons p x xs, passes) (last_passing p (Some x) xs ∙ sym (or_some (last_such p xs) x before))
  | inr fails ↦ rw (last_such-cons p x xs, fails) (last_passing p before xs ∙ ap (λ l. option_or l before) (sym (or_none (last_such p xs))))
]

-- the last revision is the last one in the list of its half
pub latest_in : (unit half : ℕ) (all : List Filed) → latest_of unit half all ≡ last_or None (revisions unit half all)
latest_in unit half all = sym (last_passing (is_filed_for unit half) None all ∙ or_none (latest_of unit half all))

-- the first item that passes two tests is the first that passes the second among those that pass the first
find_both : {X : Type 0} (p q : X → Bool) (all : List X) → find (λ x. p x && q x) all ≡ find q (filter p all)
find_both p q [] = refl
find_both p q (x ∷ xs) = elim (cases_Bool (p x)) [
  | inl passes ↦ rw passes (ap (cond (q x) (Some x)) (find_both p q xs))
  | inr fails ↦ rw fails (find_both p q xs)
]

-- numbers that count up from a greater one contain no smaller one
none_below : (number first : ℕ) (reports : List Filed) → CountFrom first reports → number < first
    → find (λ filed. nat_eq filed.revision number) reports ≡ None
none_below number first [] counted below = refl
none_below number first (filed ∷ more) counted below =
    let other : nat_eq filed.revision number ≡ false = let is = counted.0 in grind (arith, nat_tests) in
    rw other (none_below number (first + 1) more counted.1 (omega (arith, below)))

-- the report with a number is at its place
one_at : (place number first : ℕ) (reports : List Filed) → CountFrom first reports → number ≡ first + place
    → find (λ filed. nat_eq filed.revision number) reports ≡ slice_get reports place
one_at place number first [] counted is = refl
one_at zero number first (filed ∷ more) counted is =
    let own : nat_eq filed.revision number ≡ true = let first_is = counted.0 in grind (arith, nat_tests) in
    rw own refl
one_at (suc place) number first (filed ∷ more) counted is =
    let other : nat_eq filed.revision number ≡ false = let first_is = counted.0 in grind (arith, nat_tests) in
    rw other (one_at place number (first + 1) more counted.1 (omega (arith, is)))

-- the report with a revision is at its number in the list of its half
pub revision_in : (unit half revision : ℕ) (all : List Filed) → AreNumbered all
    → revision_of unit half revision all ≡ numbered revision (revisions unit half all)
revision_in unit half zero all counted =
    find_both (is_filed_for unit half) (λ filed. nat_eq filed.revision zero) all
    ∙ none_below zero 1 (revisions unit half all) (counted unit half) (omega arith)
revision_in unit half (suc place) all counted =
    find_both (is_filed_for unit half) (λ filed. nat_eq filed.revision (suc place)) all
    ∙ one_at place (suc place) 1 (revisions unit half all) (counted unit half) (omega arith)

-- ---- one more report

-- one more report at the end, if it passes
behind_if : {X : Type 0} (b : Bool) (xs : List X) (x : X) → xs ++ cond b (x ∷ []) [] ≡ cond b (xs ++ x ∷ []) xs
behind_if true xs x = refl
behind_if false xs x = append-nil xs

-- the map with one more report
grown : (filed : Filed) (all : List Filed) → HasOneMore filed (map_of all) (map_of (all ++ filed ∷ []))
grown filed all = λ unit half. revisions_put unit half all filed ∙ behind_if (is_filed_for unit half filed) (revisions unit half all) filed

-- ---- exposed reports

-- the exposed reports after a call that changes nothing
pub stays : (told told' : Option (List Filed)) (P : List Filed → List Filed → Type 0) → told' ≡ told → Told told (λ old. P old old) → BothTold told told' P
stays None told' P same holds = subst (λ t. BothTold None t P) (sym same) tt
stays (Some old) told' P same holds = subst (λ t. BothTold (Some old) t P) (sym same) holds

-- a property of all lists of reports, for the exposed ones
pub told_all : (told : Option (List Filed)) (P : List Filed → Type 0) → ((old : List Filed) → P old) → Told told P
told_all None P all = tt
told_all (Some old) P all = all old

-- ---- the answers to one call

-- the answer to a call for the last revision
pub latest_answer : (unit half : ℕ) (found : Result (Option Filed) FilingFault) (told told' : Option (List Filed)) → told' ≡ told
    → IfOk found (λ found. Told told (λ old. found ≡ latest_of unit half old))
    → BothTold told told' (λ old new. AnswersCall (call.Latest unit half) (found_or_fault found) (map_of old) (map_of new))
latest_answer unit half (Ok found) told told' same value =
    stays told told' (λ old new. AnswersCall (call.Latest unit half) (answer.Found found) (map_of old) (map_of new)) same
    (Told-weaker (λ old. found ≡ latest_of unit half old) (λ old. AnswersCall (call.Latest unit half) (answer.Found found) (map_of old) (map_of old))
    (λ old is. (is ∙ latest_in unit half old, refl)) told value)
latest_answer unit half (Err fault) told told' same value =
    stays told told' (λ old new. map_of new ≡ map_of old) same (told_all told (λ old. map_of old ≡ map_of old) (λ old. refl))

-- the answer to a call for one revision
pub revision_answer : (unit half revision : ℕ) (found : Result (Option Filed) FilingFault) (told told' : Option (List Filed)) → told' ≡ told
    → Told told AreNumbered → IfOk found (λ found. Told told (λ old. found ≡ revision_of unit half revision old))
    → BothTold told told' (λ old new. AnswersCall (call.Revision unit half revision) (found_or_fault found) (map_of old) (map_of new))
revision_answer unit half revision (Ok found) None told' same counted value =
    stays None told' (λ old new. AnswersCall (call.Revision unit half revision) (answer.Found found) (map_of old) (map_of new)) same tt
revision_answer unit half revision (Ok found) (Some old) told' same counted value =
    stays (Some old) told' (λ old new. AnswersCall (call.Revision unit half revision) (answer.Found found) (map_of old) (map_of new)) same
    (value ∙ revision_in unit half revision old counted, refl)
revision_answer unit half revision (Err fault) told told' same counted value =
    stays told told' (λ old new. map_of new ≡ map_of old) same (told_all told (λ old. map_of old ≡ map_of old) (λ old. refl))

-- the report with these cells
abbrev pub report : ℕ → ℕ → ℕ → Cells → ℕ → Filed
report unit half day cells revision = record { unit = unit; half = half; revision = revision; day = day; cells = cells }

-- no number is left after the last report
none_left : (count : ℕ) (last : Option Filed) → after 1 last ≡ count + 1 → number_after last ≡ None → count ≡ LAST_REVISION
none_left count None is none = absurd (let e = none in cc)
none_left count (Some last) is none = grind (arith, nat_tests, none)

-- the number after the last report
one_left : (count revision : ℕ) (last : Option Filed) → after 1 last ≡ count + 1 → number_after last ≡ Some revision → revision ≡ count + 1
one_left count revision None is left = let e : 1 ≡ revision = cc in omega (arith, e, is)
one_left count revision (Some last) is left = grind (arith, nat_tests, left)

-- if no number is left, there is no next report
pub next_none : (unit half day : ℕ) (cells : Cells) (last : Option Filed) (told : Option (List Filed)) → Told told (λ old. last ≡ latest_of unit half old)
    → Told told AreNumbered → number_after last ≡ None → Told told (IsNextOf unit half day cells None)
next_none unit half day cells last None is counted none = tt
next_none unit half day cells last (Some old) is counted none =
    none_left (length (revisions unit half old)) last (ap (after 1) is ∙ last_counted (is_filed_for unit half) 1 old (counted unit half)) none

-- the report with the number that is left is the next one
pub next_one : (unit half day revision : ℕ) (cells : Cells) (last : Option Filed) (told : Option (List Filed)) → Told told (λ old. last ≡ latest_of unit half old)
    → Told told AreNumbered → number_after last ≡ Some revision → Told told (IsNextOf unit half day cells (Some (report unit half day cells revision)))
next_one unit half day revision cells last None is counted left = tt
next_one unit half day revision cells last (Some old) is counted left =
    ap (report unit half day cells)
    (one_left (length (revisions unit half old)) revision last (ap (after 1) is ∙ last_counted (is_filed_for unit half) 1 old (counted unit half)) left)

-- the next report can be filed
pub next_is_next : (unit half day : ℕ) (cells : Cells) (filed : Filed) (told : Option (List Filed)) → Told told (IsNextOf unit half day cells (Some filed))
    → Told told (IsNext filed)
next_is_next unit half day cells filed None next = tt
next_is_next unit half day cells filed (Some old) next =
    subst (λ f. IsNext f old) (sym next) refl

-- a report was filed, or the map is unchanged
put_one : (unit half day : ℕ) (cells : Cells) (filed : Filed) (given : FilingAnswer) (old new : List Filed) → IsNextOf unit half day cells (Some filed) old
    → AnswersPut filed given old new → AnswersCall (call.Put unit half day cells) given (map_of old) (map_of new)
put_one unit half day cells filed (answer.Put revision) old new next put =
    let number : revision ≡ length (revisions unit half old) + 1 = put.0 ∙ ap (λ (f : Filed). f.revision) next in
    let same : filed ≡ report unit half day cells revision = next ∙ ap (report unit half day cells) (sym number) in
    (number, subst (λ f. HasOneMore f (map_of old) (map_of new)) same (subst (λ l. HasOneMore filed (map_of old) (map_of l)) (sym put.1) (grown filed old)))
put_one unit half day cells filed (answer.Fault fault) old new next put = ap map_of put
put_one unit half day cells filed given old new next put = absurd put

-- the answer to a call that files
pub put_answer : (unit half day : ℕ) (cells : Cells) (filed : Filed) (given : FilingAnswer) (told told' told'' : Option (List Filed))
    → Told told (IsNextOf unit half day cells (Some filed)) → told' ≡ told → BothTold told' told'' (AnswersPut filed given)
    → BothTold told told'' (λ old new. AnswersCall (call.Put unit half day cells) given (map_of old) (map_of new))
put_answer unit half day cells filed given None told' None next same put = tt
put_answer unit half day cells filed given None told' (Some new) next same put = subst (λ t. BothTold t (Some new) (AnswersPut filed given)) same put
put_answer unit half day cells filed given (Some old) told' None next same put = subst (λ t. BothTold t None (AnswersPut filed given)) same put
put_answer unit half day cells filed given (Some old) told' (Some new) next same put =
    put_one unit half day cells filed given old new next (subst (λ t. BothTold t (Some new) (AnswersPut filed given)) same put)

-- the answer if no number is left
pub full_answer : (unit half day : ℕ) (cells : Cells) (told told' : Option (List Filed)) → Told told (IsNextOf unit half day cells None) → told' ≡ told
    → BothTold told told' (λ old new. AnswersCall (call.Put unit half day cells) answer.Full (map_of old) (map_of new))
full_answer unit half day cells told told' none same =
    stays told told' (λ old new. AnswersCall (call.Put unit half day cells) answer.Full (map_of old) (map_of new)) same
    (Told-weaker (IsNextOf unit half day cells None) (λ old. AnswersCall (call.Put unit half day cells) answer.Full (map_of old) (map_of old)) (λ old is. (is, refl)) told none)

-- the answer if the call failed
pub fault_answer : (asked : FilingCall) (fault : FilingFault) (told told' : Option (List Filed)) → told' ≡ told
    → BothTold told told' (λ old new. map_of new ≡ map_of old)
fault_answer asked fault told told' same =
    stays told told' (λ old new. map_of new ≡ map_of old) same (told_all told (λ old. map_of old ≡ map_of old) (λ old. refl))

-- ---- the answers to several calls

-- one more call
more_answered : (calls : List FilingCall) (answers : List FilingAnswer) (asked : FilingCall) (given : FilingAnswer) (a b c : ReportMap)
    → AnswersCalls calls answers a b → AnswersCall asked given b c → AnswersCalls (calls ++ asked ∷ []) (answers ++ given ∷ []) a c
more_answered [] [] asked given a b c same one = (c, subst (λ m. AnswersCall asked given m c) same one, refl)
more_answered (x ∷ xs) (y ∷ ys) asked given a b c h one = (h.0, h.1, more_answered xs ys asked given h.0 b c h.2 one)
more_answered calls answers asked given a b c h one = absurd h

-- no call
pub none_answered : (told : Option (List Filed)) → BothTold told told (λ old new. AnswersCalls [] [] (map_of old) (map_of new))
none_answered None = tt
none_answered (Some old) = refl

-- one more call, if reports are exposed
pub one_answered : (calls : List FilingCall) (answers : List FilingAnswer) (asked : FilingCall) (given : FilingAnswer) (first told told' : Option (List Filed))
    → BothTold first told (λ old new. AnswersCalls calls answers (map_of old) (map_of new))
    → BothTold told told' (λ old new. AnswersCall asked given (map_of old) (map_of new))
    → BothTold first told' (λ old new. AnswersCalls (calls ++ asked ∷ []) (answers ++ given ∷ []) (map_of old) (map_of new))
one_answered calls answers asked given first told told' before one = BothTold-joins
    (λ old new. AnswersCalls calls answers (map_of old) (map_of new)) (λ old new. AnswersCall asked given (map_of old) (map_of new))
    (λ old new. AnswersCalls (calls ++ asked ∷ []) (answers ++ given ∷ []) (map_of old) (map_of new))
    (λ old mid new. more_answered calls answers asked given (map_of old) (map_of mid) (map_of new)) first told told' before one

-- the calls up to the next one
pub next_answered : (calls : List FilingCall) (place : ℕ) (answers more : List FilingAnswer) (asked : FilingCall) (given : FilingAnswer)
    (first told told' : Option (List Filed)) → place < length calls → asked ≡ get_or calls place asked → more ≡ answers ++ given ∷ []
    → BothTold first told (λ old new. AnswersCalls (take place calls) answers (map_of old) (map_of new))
    → BothTold told told' (λ old new. AnswersCall asked given (map_of old) (map_of new))
    → BothTold first told' (λ old new. AnswersCalls (take (place + 1) calls) more (map_of old) (map_of new))
next_answered calls place answers more asked given first told told' within is pushed before one =
    let all : take (place + 1) calls ≡ take place calls ++ asked ∷ [] = take_more calls place asked within ∙ ap (λ x. take place calls ++ x ∷ []) (sym is) in
    rw (all, pushed) (one_answered (take place calls) answers asked given first told told' before one)

-- the calls up to one of them
pub some_answered : {X E : Type 0} (result : Result X E) (calls : List FilingCall) (made : ℕ) (answers : List FilingAnswer) (told told' : Option (List Filed))
    → BothTold told told' (λ old new. AnswersCalls (take made calls) answers (map_of old) (map_of new))
    → OnErr result (BothTold told told' (λ old new. AnswersSome calls (map_of old) (map_of new)))
some_answered (Ok x) calls made answers told told' done = tt
some_answered (Err e) calls made answers told told' done = BothTold-weaker
    (λ old new. AnswersCalls (take made calls) answers (map_of old) (map_of new)) (λ old new. AnswersSome calls (map_of old) (map_of new))
    (λ old new h. (made, answers, h)) told told' done

-- an error among the answers, with one more, was counted
pub failure_counted : (answers more : List FilingAnswer) (given : FilingAnswer) (first before after : ℕ) → more ≡ answers ++ given ∷ [] → first ≤ before
    → before ≤ after → (Contains answers (answer.Fault Failed) → Rose first before) → (given ≡ answer.Fault Failed → Rose before after)
    → Contains more (answer.Fault Failed) → Rose first after
failure_counted answers more given first before after pushed earlier now counted cause has =
    elim (Contains-push_cases answers given (answer.Fault Failed) (subst (λ l. Contains l (answer.Fault Failed)) pushed has)) [
      | inl was ↦ Rose-longer first first before after (omega arith) earlier now (counted was)
      | inr is ↦ Rose-longer first before after after earlier now (omega arith) (cause is)
    ]
