-- Reading in pieces up to the end.
use Rattle.std.proofs.Common.{◌≡◌, ◌<◌, ◌≤◌, ◌+◌, ℕ, List, ◌++◌, length, take, drop, refl, sym, ap, ◌∙◌, arith}
use Rattle.std.proofs.Math.Seq.{take-add, take-append_seam}
use Rattle.std.proofs.lemmas.List.{length-take-le, length-drop, take_all}
use Rattle.disk_model.specs.Disk.{Reads}

-- the bytes that a read copied into the slice are those at its place
pub Reads-piece : (at n : ℕ) (bytes old new : List ℕ) → Reads at bytes old new n → take n new ≡ take n (drop at bytes)
Reads-piece at n bytes old new reads =
    let piece = take n (drop at bytes) in
    let fits : n ≤ length (drop at bytes) = omega (arith, length-drop at bytes) in
    let len : length piece ≡ n = length-take-le n (drop at bytes) fits in
    ap (take n) reads.value ∙ ap (λ k. take k (piece ++ drop n old)) (sym len) ∙ take-append_seam piece (drop n old)

-- the bytes read before a place, with those of a read there, are the bytes before the next place
pub Reads-more : (at n : ℕ) (bytes old new : List ℕ) → Reads at bytes old new n → take at bytes ++ take n new ≡ take (at + n) bytes
Reads-more at n bytes old new reads = rw (Reads-piece at n bytes old new reads) (sym (take-add at n bytes))

-- a read of no bytes into a non-empty slice is at the end: the bytes read before it are all
pub Reads-all : (at : ℕ) (bytes old new : List ℕ) → 0 < length old → Reads at bytes old new 0 → take at bytes ≡ bytes
Reads-all at bytes old new room reads =
    let at_end : length bytes ≤ at = reads.at_end refl room in
    take_all at bytes at_end
