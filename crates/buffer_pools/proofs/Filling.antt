use Rattle.std.proofs.Common.{◌≡◌, ℕ, List, ◌+◌, ◌<◌, map, take, set, get_or, length, refl, add-one}
use Rattle.std.proofs.lemmas.List.{take_more_set, map-append}
use Rattle.std.proofs.Math.Seq.{take-suc}

-- one more place is filled
pub map-take_more_set : {X Y : Type 0} (f : X → Y) (xs : List X) (i : ℕ) (x : X) (ys : List Y) (d : Y)
    → i < length xs → i < length ys → map f (take i xs) ≡ take i ys → f x ≡ get_or ys i d
    → map f (take (i + 1) (set xs i x)) ≡ take (i + 1) ys
map-take_more_set f xs i x ys d within_xs within_ys so_far here =
    rw (take_more_set xs i x within_xs, map-append, so_far, here, add-one, take-suc ys i d within_ys) refl
