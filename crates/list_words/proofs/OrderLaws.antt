use Rattle.std.proofs.Common.{◌↔◌, List}
use Rattle.std.specs.List.{Contains}
use Rattle.list_words.specs.Order.{InOrderPermutes, InOrderAscends, AscendingIsOne, InOrderForgetsOrder, CutIsByOrder, FrontIsCut, PutEachIsInOrder}
use Rattle.list_words.proofs.Ascending as ascending
use Rattle.list_words.proofs.Members.{Among, among_from_Contains, Contains-from_among}
use Rattle.list_words.proofs.CutLemmas.{later_of_cut, earlier_of_cut, front_is_cut as cut_of_front}

-- the law of `in_order_permutes`
pub in_order_permutes : (X : Type 0) → InOrderPermutes X
in_order_permutes X before xs = ascending.in_order_permutes before xs

-- the law of `in_order_ascends`
pub in_order_ascends : (X : Type 0) → InOrderAscends X
in_order_ascends X before xs strict apart = ascending.ascends_in_order before strict xs apart

-- equal membership by places is equal membership by recursion
among_same : {X : Type 0} (xs ys : List X) → ((z : X) → Contains xs z ↔ Contains ys z) → (z : X) → Among xs z ↔ Among ys z
among_same xs ys same z = (
  λ h. among_from_Contains ys z ((same z).0 (Contains-from_among xs z h)),
  λ h. among_from_Contains xs z ((same z).1 (Contains-from_among ys z h)),
)

-- the law of `ascending_is_one`
pub ascending_is_one : (X : Type 0) → AscendingIsOne X
ascending_is_one X before xs ys strict up upward same = ascending.same_ascending before strict xs ys up upward (among_same xs ys same)

-- the law of `in_order_forgets`
pub in_order_forgets : (X : Type 0) → InOrderForgetsOrder X
in_order_forgets X before xs ys strict apart moved = ascending.in_order_forgets before strict xs ys apart moved

-- the law of `cut_is_by_order`
pub cut_is_by_order : (X : Type 0) → CutIsByOrder X
cut_is_by_order X before xs x ys strict up = (later_of_cut before strict xs x ys up, earlier_of_cut before strict xs x ys up)

-- the law of `front_is_cut`
pub front_is_cut : (X : Type 0) → FrontIsCut X
front_is_cut X before p xs up closed = cut_of_front before p xs up closed

-- the law of `put_each_in_order`
pub put_each_in_order : (X : Type 0) → PutEachIsInOrder X
put_each_in_order X before xs ys strict apart = ascending.put_each_in_order before strict xs ys apart
