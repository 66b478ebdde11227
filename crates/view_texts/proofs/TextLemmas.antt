-- A text is its first line, the lines between, and its last line. A line is its words, in whichever order they are joined.
use Rattle.std.proofs.Common.{◌≡◌, ℕ, Result, IfOk, List, [], ◌∷◌, ◌++◌, refl, ap, ◌∙◌, append_assoc, sym}
use Rattle.std.proofs.lemmas.Result.{IfOk-weaker}

-- three parts appended in order are the text
pub text_made : (first lines last begun listed ended : List ℕ) → begun ≡ first → listed ≡ begun ++ lines → ended ≡ listed ++ last
    → ended ≡ first ++ lines ++ last
text_made first lines last begun listed ended is_begun is_listed is_ended = rw (is_ended, is_listed, is_begun) refl

-- words joined from the right
abbrev pub from_right : List ℕ → List (List ℕ) → List ℕ
from_right word [] = word
from_right word (next ∷ words) = word ++ from_right next words

-- words joined from the left
abbrev pub from_left : List ℕ → List (List ℕ) → List ℕ
from_left word [] = word
from_left word (next ∷ words) = from_left (word ++ next) words

-- a prefix stays at the start
from_left-front : (front word : List ℕ) (words : List (List ℕ)) → from_left (front ++ word) words ≡ front ++ from_left word words
from_left-front front word [] = refl
from_left-front front word (next ∷ words) =
    ap (λ w. from_left w words) (append_assoc front word next) ∙ from_left-front front (word ++ next) words

-- both ways of joining make the same line
pub same_line : (word : List ℕ) (words : List (List ℕ)) → from_right word words ≡ from_left word words
same_line word [] = refl
same_line word (next ∷ words) = ap (λ w. word ++ w) (same_line next words) ∙ sym (from_left-front word next words)

-- a text whose words were joined from the right is the line
pub line_made : {X E : Type 0} (made : Result X E) (bytes_of : X → List ℕ) (word : List ℕ) (words : List (List ℕ))
    → IfOk made (λ text. bytes_of text ≡ from_right word words) → IfOk made (λ text. bytes_of text ≡ from_left word words)
line_made made bytes_of word words is =
    IfOk-weaker made (λ text. bytes_of text ≡ from_right word words) (λ text. bytes_of text ≡ from_left word words)
    (λ text same. same ∙ same_line word words) is

-- a line that is appended in three steps
pub line_put : (old first second third fourth last one two three : List ℕ) → one ≡ old ++ first → two ≡ one ++ second
    → three ≡ two ++ (third ++ (fourth ++ last)) → three ≡ old ++ (first ++ second ++ third ++ fourth ++ last)
line_put old first second third fourth last one two three is_one is_two is_three = rw (is_three, is_two, is_one) (simp append_assoc)
