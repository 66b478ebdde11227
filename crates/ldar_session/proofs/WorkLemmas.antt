-- A worker answers one connection more.
use Rattle.std.proofs.Common.{Option, Some, None, List, [], ◌∷◌, ◌++◌, ℕ, map, refl, ap, sym, ◌∙◌, subst, append_assoc}
use Rattle.std.proofs.lemmas.Grind.{flat_map-append}
use Rattle.std.proofs.lemmas.List.{append-nil, map-append}
use Rattle.ldar_law.specs.Machine.{Call}
use Rattle.ldar_ports.specs.Front.{Connection, Finished, Accepts, Finishes}
use Rattle.ldar_session.specs.Served.{turns_in, turns_of}
use Rattle.ldar_session.specs.Working.{Visit, IsSession, AreSessions, HasWorked, turns_served}

-- no connection was accepted
pub accepts_none : (left : Option (List Connection)) → Accepts left [] left
accepts_none None = tt
accepts_none (Some left) = refl

-- no connection was handed back
pub finishes_none : (done : Option (List Finished)) → Finishes done [] done
finishes_none None = tt
finishes_none (Some done) = sym (append-nil done)

-- connections that were accepted after others
accepts_more : (a b c : Option (List Connection)) (first second : List Connection) → Accepts a first b → Accepts b second c → Accepts a (first ++ second) c
accepts_more None b c first second one two = tt
accepts_more (Some a) None c first second one two = absurd one
accepts_more (Some a) (Some b) None first second one two = absurd two
accepts_more (Some a) (Some b) (Some c) first second one two = one ∙ (ap (λ l. first ++ l) two ∙ sym (append_assoc first second c))

-- connections that were handed back after others
finishes_more : (a b c : Option (List Finished)) (first second : List Finished) → Finishes a first b → Finishes b second c → Finishes a (first ++ second) c
finishes_more None b c first second one two = tt
finishes_more (Some a) None c first second one two = absurd one
finishes_more (Some a) (Some b) None first second one two = absurd two
finishes_more (Some a) (Some b) (Some c) first second one two = two ∙ (ap (λ l. l ++ second) one ∙ append_assoc a first second)

module _ {O : Type 0} (led : O → List Call → O → Type 0) (clock_of : O → ℕ) where
  -- a session after others
  sessions_more : (old mid new : O) (visits : List Visit) (visit : Visit) → AreSessions led clock_of old visits mid → IsSession led clock_of mid new visit
      → AreSessions led clock_of old (visits ++ visit ∷ []) new
  sessions_more old mid new [] visit same is = (new, subst (λ o. IsSession led clock_of o new visit) same is, refl)
  sessions_more old mid new (first ∷ visits) visit each is = (each.0, each.1, sessions_more each.0 mid new visits visit each.2 is)

  -- no connection has come
  pub worked_none : ((office : O) → led office [] office) → (office : O) (left : Option (List Connection)) (done : Option (List Finished))
      → HasWorked led clock_of office office left left done done
  worked_none stays office left done = record {
    visits = [];
    calls = [];
    run = stays office;
    turns = refl;
    sessions = refl;
    accepted = accepts_none left;
    finished = finishes_none done;
  }

  -- one connection more was answered and handed back
  pub worked_more : ((a b c : O) (first second : List Call) → led a first b → led b second c → led a (first ++ second) c) → (old mid new : O)
      (a b c : Option (List Connection)) (x y z : Option (List Finished)) → HasWorked led clock_of old mid a b x y → (visit : Visit) → IsSession led clock_of mid new visit
      → Accepts b (visit.before ∷ []) c → Finishes y (visit.after ∷ []) z → HasWorked led clock_of old new a c x z
  worked_more joins old mid new a b c x y z so_far visit is accepted finished =
      let stretch = is.stretch in record {
        visits = so_far.visits ++ visit ∷ [];
        calls = so_far.calls ++ stretch.calls;
        run = joins old mid new so_far.calls stretch.calls so_far.run stretch.run;
        turns =
            flat_map-append (λ call. call.turns) so_far.calls stretch.calls
            ∙ (ap (λ l. l ++ turns_in stretch.calls) so_far.turns
            ∙ (ap (λ l. turns_served so_far.visits ++ l) (stretch.turns ∙ sym (append-nil (turns_of visit.served)))
            ∙ sym (flat_map-append (λ (v : Visit). turns_of v.served) so_far.visits (visit ∷ []))));
        sessions = sessions_more old mid new so_far.visits visit so_far.sessions is;
        accepted =
            subst (λ l. Accepts a l c) (sym (map-append (λ (v : Visit). v.before) so_far.visits (visit ∷ [])))
            (accepts_more a b c (map (λ (v : Visit). v.before) so_far.visits) (visit.before ∷ []) so_far.accepted accepted);
        finished =
            subst (λ l. Finishes x l z) (sym (map-append (λ (v : Visit). v.after) so_far.visits (visit ∷ [])))
            (finishes_more x y z (map (λ (v : Visit). v.after) so_far.visits) (visit.after ∷ []) so_far.finished finished);
      }
