-- The results of a reader of one frame, at each of its exits.
use Rattle.std.proofs.Common.{◌≡◌, ℕ, zero, suc, ◌+◌, ◌/◌, ◌<◌, ◌≤◌, List, [], ◌∷◌, ◌++◌, length, take, drop, get_or, refl, sym, ◌∙◌, ap, ap₂, subst, arith}
use Rattle.std.proofs.Common.{append_assoc, length-append}
use Rattle.std.specs.List.{AllByRecursion}
use Rattle.std.specs.Int.{w32, to_be_bytes, from_be_bytes}
use Rattle.std.proofs.lemmas.Grind.{flat_map-append}
use Rattle.std.proofs.lemmas.List.{append-nil, take-append-drop, take-append-le, drop-append-le, length-take-le}
use Rattle.std.proofs.lemmas.Nat.{be_bytes_4}
use Rattle.std.proofs.Math.Seq.{take-append_seam, drop-append_seam}
use Rattle.fact_kinds.specs.declared.batch.Batch.{Batch}
use Rattle.fact_kinds.specs.Fields.{big_endian}
use Rattle.ldar_facts.specs.Grammar.{Spells, HasNoBatch}
use Rattle.ldar_journal.specs.Image.{IsBatch, spelling, payload, frame, IsFrame}
use Rattle.ldar_journal.specs.FrameAt.{IsPayloadAt, IsFrameOf, HasNoFrame}
use Rattle.ldar_journal.proofs.Frames.{length-payload, payload_goes_on, PayloadGoesOn, big_endian-one, fronts}

-- a payload with one more batch
pub payload-push : (bs : List Batch) (b : Batch) → payload (bs ++ b ∷ []) ≡ payload bs ++ spelling b
payload-push bs b = flat_map-append spelling bs (b ∷ []) ∙ ap (λ (l : List ℕ). payload bs ++ l) (append-nil (spelling b))

pub AllByRecursion-push : {X : Type 0} (P : X → Type 0) (xs : List X) (y : X) → AllByRecursion P xs → P y → AllByRecursion P (xs ++ y ∷ [])
AllByRecursion-push P [] y are is = (is, tt)
AllByRecursion-push P (x ∷ xs) y are is = (are.0, AllByRecursion-push P xs y are.1 is)

-- bytes that spell a batch are its spelling
pub Spells-is : (bytes : List ℕ) (batch : Batch) → Spells bytes batch → IsBatch batch × (bytes ≡ spelling batch)
unfolding IsBatch spelling
Spells-is bytes batch spells = (spells.filled, spells.spells)

pub is-Spells : (batch : Batch) → IsBatch batch → Spells (spelling batch) batch
unfolding IsBatch spelling
is-Spells batch is = record { filled = is; spells = refl }

-- the rest after some batches of a frame, if it is not empty, begins with another batch
left_of : (front whole : List Batch) (rest : List ℕ) → PayloadGoesOn front whole rest → 0 < length rest
    → (b : Batch) × (more : List Batch) × IsBatch b × (whole ≡ front ++ b ∷ more) × (rest ≡ spelling b ++ payload more)
left_of front whole rest goes_on some = at goes_on.more goes_on.batches goes_on.bytes goes_on.each
  where
    at : (more : List Batch) → whole ≡ front ++ more → rest ≡ payload more → AllByRecursion IsBatch more
        → (b : Batch) × (more : List Batch) × IsBatch b × (whole ≡ front ++ b ∷ more) × (rest ≡ spelling b ++ payload more)
    at [] batches bytes each = absurd (omega (arith, ap length bytes))
    at (b ∷ more) batches bytes each = (b, more, each.0, batches, bytes)

-- sixteen batches followed by more bytes are no payload
pub too_many : (bytes rest : List ℕ) (front : List Batch) → bytes ≡ payload front ++ rest → AllByRecursion IsBatch front → length front ≡ 16 → 0 < length rest
    → (batches : List Batch) → IsFrame batches → ¬ (payload batches ≡ bytes)
too_many bytes rest front whole each sixteen some batches is same =
    let goes_on = payload_goes_on front batches rest each is.each (same ∙ whole) in
    let more = left_of front batches rest goes_on some in
    omega (arith, is.fits, ap length more.3, length-append front (more.0 ∷ more.1))

-- batches followed by bytes that begin with none are no payload
pub no_batch : (bytes rest : List ℕ) (front : List Batch) → bytes ≡ payload front ++ rest → AllByRecursion IsBatch front → HasNoBatch rest → 0 < length rest
    → (batches : List Batch) → IsFrame batches → ¬ (payload batches ≡ bytes)
no_batch bytes rest front whole each none some batches is same =
    let goes_on = payload_goes_on front batches rest each is.each (same ∙ whole) in
    let more = left_of front batches rest goes_on some in
    let front_is : take (length (spelling more.0)) rest ≡ spelling more.0 = ap (take (length (spelling more.0))) more.4
    ∙ take-append_seam (spelling more.0) (payload more.1) in
    none (length (spelling more.0)) more.0 (subst (λ (l : List ℕ). Spells l more.0) (sym front_is) (is-Spells more.0 more.2))

-- the empty list is no payload
pub nothing : (bytes : List ℕ) → length bytes ≡ 0 → (batches : List Batch) → IsFrame batches → ¬ (payload batches ≡ bytes)
nothing bytes none batches is same = omega (arith, is.some, (length-payload batches is.each).0, ap length same)

-- one more batch was read from the rest
pub one_more : (bytes rest after : List ℕ) (items : List Batch) (b : Batch) (used : ℕ) → bytes ≡ payload items ++ rest → take used rest ≡ spelling b
    → after ≡ drop used rest
    → bytes ≡ payload (items ++ b ∷ []) ++ after
one_more bytes rest after items b used whole spells left =
    let parts : rest ≡ spelling b ++ after = sym (take-append-drop used rest) ∙ ap (λ (l : List ℕ). l ++ drop used rest) spells
    ∙ ap (λ (l : List ℕ). spelling b ++ l) (sym left) in
    whole ∙ ap (λ (l : List ℕ). payload items ++ l) parts ∙ sym (append_assoc (payload items) (spelling b) after)
    ∙ ap (λ (l : List ℕ). l ++ after) (sym (payload-push items b))

-- nothing was read, and no bytes are left
pub nothing_left : (bytes rest : List ℕ) (items : List Batch) → bytes ≡ payload items ++ rest → length rest ≡ 0 → length items ≡ 0 → (batches : List Batch)
    → IsFrame batches → ¬ (payload batches ≡ bytes)
nothing_left bytes rest [] whole none read = nothing bytes (ap length whole ∙ none)
nothing_left bytes rest (b ∷ items) whole none read = absurd (omega arith)

-- four bytes of a number are those of `to_be_bytes`
pub big_endian-bytes : (n : ℕ) → big_endian 4 n ≡ to_be_bytes w32 n
big_endian-bytes n = let whole : n / 1 ≡ n = omega arith in rw whole refl

four : (b c d e : ℕ) → b < 256 → c < 256 → d < 256 → e < 256 → (i : ℕ) → get_or (b ∷ c ∷ d ∷ e ∷ []) i 0 < 256
four b c d e b_fits c_fits d_fits e_fits zero = b_fits
four b c d e b_fits c_fits d_fits e_fits (suc zero) = c_fits
four b c d e b_fits c_fits d_fits e_fits (suc (suc zero)) = d_fits
four b c d e b_fits c_fits d_fits e_fits (suc (suc (suc zero))) = e_fits
four b c d e b_fits c_fits d_fits e_fits (suc (suc (suc (suc i)))) = omega arith

-- the gate, the length and the payload of an open frame
pub payload_stands : (bytes rest found : List ℕ) (len : ℕ) → 5 ≤ length bytes → get_or bytes 0 0 ≡ 1 → ((i : ℕ) → get_or bytes i 0 < 256)
    → len ≡ from_be_bytes w32 (get_or bytes 1 0 ∷ get_or bytes 2 0 ∷ get_or bytes 3 0 ∷ get_or bytes 4 0 ∷ [])
    → rest ≡ drop 5 bytes → found ≡ take len rest → 0 < len → len ≤ 188_560 → len ≤ length rest → IsPayloadAt bytes found
payload_stands [] rest found len long open_gate are_bytes len_is rest_is found_is some fits within = absurd (omega arith)
payload_stands (a ∷ []) rest found len long open_gate are_bytes len_is rest_is found_is some fits within = absurd (omega arith)
payload_stands (a ∷ b ∷ []) rest found len long open_gate are_bytes len_is rest_is found_is some fits within = absurd (omega arith)
payload_stands (a ∷ b ∷ c ∷ []) rest found len long open_gate are_bytes len_is rest_is found_is some fits within = absurd (omega arith)
payload_stands (a ∷ b ∷ c ∷ d ∷ []) rest found len long open_gate are_bytes len_is rest_is found_is some fits within = absurd (omega arith)
payload_stands (a ∷ b ∷ c ∷ d ∷ e ∷ tail) rest found len long open_gate are_bytes len_is rest_is found_is some fits within =
    let long_is : length found ≡ len = ap length found_is ∙ length-take-le len rest within in
    let bytes_are : big_endian 4 len ≡ b ∷ c ∷ d ∷ e ∷ [] =
    big_endian-bytes len ∙ be_bytes_4 (b ∷ c ∷ d ∷ e ∷ []) len refl (four b c d e (are_bytes 1) (are_bytes 2) (are_bytes 3) (are_bytes 4)) len_is in
    let parts : tail ≡ found ++ drop len rest = sym rest_is ∙ sym (take-append-drop len rest) ∙ ap (λ (l : List ℕ). l ++ drop len rest) (sym found_is) in
    let head : b ∷ c ∷ d ∷ e ∷ [] ≡ big_endian 4 (length found) = sym bytes_are ∙ ap (big_endian 4) (sym long_is) in
    record {
      some = omega arith;
      fits = omega arith;
      rest = drop len rest;
      stands =
          ap (λ (n : ℕ). n ∷ b ∷ c ∷ d ∷ e ∷ tail) open_gate ∙ ap (λ (l : List ℕ). 1 ∷ b ∷ c ∷ d ∷ e ∷ l) parts
          ∙ ap (λ (l : List ℕ). 1 ∷ ((l ++ found) ++ drop len rest)) head;
    }

-- a frame is a gate, a length and a payload
pub payload_of_frame : (bytes rest : List ℕ) (batches : List Batch) → IsFrame batches → bytes ≡ frame batches ++ rest → IsPayloadAt bytes (payload batches)
payload_of_frame bytes rest batches is stands =
    let long = length-payload batches is.each in
    record {
      some = omega (arith, is.some);
      fits = omega (arith, is.fits);
      rest = rest;
      stands = stands;
    }

-- at most one payload is at the front
pub one_payload_at : (bytes one other : List ℕ) → IsPayloadAt bytes one → IsPayloadAt bytes other → one ≡ other
one_payload_at bytes one other is is_too =
    let same = sym is.stands ∙ is_too.stands in
    let lengths : big_endian 4 (length one) ≡ big_endian 4 (length other) = cc in
    let tails : one ++ is.rest ≡ other ++ is_too.rest = cc in
    (fronts one other is.rest is_too.rest (big_endian-one (length one) (length other) (omega (arith, is.fits)) (omega (arith, is_too.fits)) lengths) tails).0

-- the frame of these batches takes its gate, its length and its payload
pub frame_stands : (bytes found : List ℕ) (batches : List Batch) → IsPayloadAt bytes found → IsFrame batches → payload batches ≡ found
    → IsFrameOf bytes batches (5 + length found)
frame_stands bytes found batches stands is same =
    let used_is : 5 + length found ≡ length (frame batches) = ap (λ (l : List ℕ). 5 + length l) (sym same) ∙ omega arith in
    let whole : bytes ≡ frame batches ++ stands.rest = stands.stands ∙ ap (λ (l : List ℕ). 1 ∷ ((big_endian 4 (length l) ++ l) ++ stands.rest)) (sym same) in
    let after : drop (5 + length found) bytes ≡ stands.rest = ap₂ (λ (n : ℕ) (l : List ℕ). drop n l) used_is whole
    ∙ drop-append_seam (frame batches) stands.rest in
    record {
      is = is;
      used_is = used_is;
      within = omega (arith, ap length whole, length-append (frame batches) stands.rest);
      stands = whole ∙ ap (λ (l : List ℕ). frame batches ++ l) (sym after);
    }

-- the length before a payload
wanted_payload : (bytes more : List ℕ) (len : ℕ) → 5 ≤ length bytes → ((i : ℕ) → get_or bytes i 0 < 256)
    → len ≡ from_be_bytes w32 (get_or bytes 1 0 ∷ get_or bytes 2 0 ∷ get_or bytes 3 0 ∷ get_or bytes 4 0 ∷ []) → len < 4_294_967_296
    → (found : List ℕ) → IsPayloadAt (bytes ++ more) found → length found ≡ len
wanted_payload [] more len long are_bytes len_is fits found stands = absurd (omega arith)
wanted_payload (a ∷ []) more len long are_bytes len_is fits found stands = absurd (omega arith)
wanted_payload (a ∷ b ∷ []) more len long are_bytes len_is fits found stands = absurd (omega arith)
wanted_payload (a ∷ b ∷ c ∷ []) more len long are_bytes len_is fits found stands = absurd (omega arith)
wanted_payload (a ∷ b ∷ c ∷ d ∷ []) more len long are_bytes len_is fits found stands = absurd (omega arith)
wanted_payload (a ∷ b ∷ c ∷ d ∷ e ∷ tail) more len long are_bytes len_is fits found stands =
    let bytes_are : big_endian 4 len ≡ b ∷ c ∷ d ∷ e ∷ [] =
    big_endian-bytes len ∙ be_bytes_4 (b ∷ c ∷ d ∷ e ∷ []) len refl (four b c d e (are_bytes 1) (are_bytes 2) (are_bytes 3) (are_bytes 4)) len_is in
    let same = stands.stands in
    let head : big_endian 4 (length found) ≡ b ∷ c ∷ d ∷ e ∷ [] = cc in
    big_endian-one (length found) len (omega (arith, stands.fits)) fits (head ∙ sym bytes_are)

-- a prefix that is at least as long as another one contains it
front_of : (a b x y : List ℕ) → a ++ x ≡ b ++ y → length b ≤ length a → a ≡ b ++ drop (length b) a
front_of a b x y same within =
    let first : take (length b) a ≡ b = sym (take-append-le (length b) a x within) ∙ ap (take (length b)) same ∙ take-append_seam b y in
    sym (take-append-drop (length b) a) ∙ ap (λ (l : List ℕ). l ++ drop (length b) a) first

-- if the bytes have the length of a frame and no frame is at their front, none is at the front with more bytes
pub wanted_enough : (bytes more rest : List ℕ) (len wanted : ℕ) → 5 ≤ length bytes → ((i : ℕ) → get_or bytes i 0 < 256)
    → len ≡ from_be_bytes w32 (get_or bytes 1 0 ∷ get_or bytes 2 0 ∷ get_or bytes 3 0 ∷ get_or bytes 4 0 ∷ []) → len < 4_294_967_296
    → (len ≤ 188_560 → 5 + len ≤ wanted) → wanted ≤ length (bytes ++ more) → HasNoFrame (bytes ++ more) → HasNoFrame ((bytes ++ more) ++ rest)
wanted_enough bytes more rest len wanted long are_bytes len_is fits reaches within none others after is stands =
    let at = payload_of_frame ((bytes ++ more) ++ rest) after others is stands in
    let same : length (payload others) ≡ len = wanted_payload bytes (more ++ rest) len long are_bytes len_is fits (payload others)
    (subst (λ (l : List ℕ). IsPayloadAt l (payload others)) (append_assoc bytes more rest) at) in
    let small = at.fits in
    let reached : 5 + len ≤ wanted = reaches (omega arith) in
    let size : length (frame others) ≡ 5 + length (payload others) = omega arith in
    none others (drop (length (frame others)) (bytes ++ more)) is (front_of (bytes ++ more) (frame others) rest after stands (omega arith))

-- a frame at the front of a prefix is at the front of the whole
pub IsFrameOf-longer : (front rest : List ℕ) (batches : List Batch) (used : ℕ) → IsFrameOf front batches used → IsFrameOf (front ++ rest) batches used
IsFrameOf-longer front rest batches used is = record {
  is = is.is;
  used_is = is.used_is;
  within = omega (arith, is.within, length-append front rest);
  stands = ap (λ (l : List ℕ). l ++ rest) is.stands ∙ append_assoc (frame batches) (drop used front) rest
      ∙ ap (λ (l : List ℕ). frame batches ++ l) (sym (drop-append-le used front rest is.within));
}
