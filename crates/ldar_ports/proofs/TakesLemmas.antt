-- Bytes that were read one after the other.
use Rattle.std.proofs.Common.{ℕ, List, [], ◌++◌, Option, Some, None, refl, sym, ap, ◌∙◌}
use Rattle.std.proofs.lemmas.List.{append_assoc}
use Rattle.ldar_ports.specs.Source.{Takes}

-- if nothing is read, the unread bytes do not change
pub takes_none : (left : Option (List ℕ)) → Takes left [] left
takes_none None = tt
takes_none (Some left) = refl

-- two stretches of read bytes are one
pub takes_more : (old middle new : Option (List ℕ)) (first second : List ℕ)
    → Takes old first middle → Takes middle second new → Takes old (first ++ second) new
takes_more None middle new first second a b = tt
takes_more (Some old) None new first second a b = absurd a
takes_more (Some old) (Some middle) None first second a b = absurd b
takes_more (Some old) (Some middle) (Some new) first second a b =
    a ∙ ap (λ bytes. first ++ bytes) b ∙ sym (append_assoc first second new)
