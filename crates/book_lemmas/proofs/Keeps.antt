-- No count of refusals falls, and filters' drivers keep their kinds.
use Rattle.std.proofs.Common.{◌≡◌, ℕ, ◌≤◌, ◌<◌, List, Some, length, map, slice_set, refl, sym, ap, ◌∙◌, subst, get_or-set_same, get_or-set_other, ◌⊎◌, inl, inr, arith}
use Rattle.std.proofs.Math.Seq.{map-set_same}
use Rattle.std.proofs.lemmas.Bool.{cases_eq}
use Rattle.driver_views.specs.States.{FilterState, IsRisen}
use Rattle.book_lemmas.specs.Did.{KeepsCounts}
use Rattle.book_lemmas.specs.Views.{HeldView, no_filter, filter_at}

pub keeps_none : (held : HeldView) → KeepsCounts held held
keeps_none held = record { miniport = omega arith; filters = λ place. omega arith; kinds = refl }

pub keeps_then : (a b c : HeldView) → KeepsCounts a b → KeepsCounts b c → KeepsCounts a c
keeps_then a b c s t = record {
  miniport = omega (arith, s.miniport, t.miniport);
  filters = λ place. omega (arith, s.filters place, t.filters place);
  kinds = t.kinds ∙ s.kinds;
}

-- the filters' drivers stay as they are
pub keeps_same : (old new : HeldView) → old.miniport.refusals ≤ new.miniport.refusals → new.filters ≡ old.filters → KeepsCounts old new
keeps_same old new miniport same = record {
  miniport = miniport;
  filters = λ place. let still = ap (λ fs. (filter_at fs (Some place)).refusals) same in omega (arith, still);
  kinds = ap (map (λ (s : FilterState). s.kind)) same;
}

-- one of them takes another state
risen_at : (filters : List FilterState) (place : ℕ) (s : FilterState) → place < length filters → (filter_at filters (Some place)).refusals ≤ s.refusals
    → (q : ℕ) → (q ≡ place) ⊎ (q ≡ place → ⊥) → (filter_at filters (Some q)).refusals ≤ (filter_at (slice_set filters place s) (Some q)).refusals
risen_at filters place s within rose q (inl e) =
    let now : (filter_at (slice_set filters place s) (Some q)).refusals ≡ s.refusals =
    ap (λ k. (filter_at (slice_set filters place s) (Some k)).refusals) e ∙ ap (λ (x : FilterState). x.refusals) (get_or-set_same filters place s no_filter within) in
    let was : (filter_at filters (Some q)).refusals ≡ (filter_at filters (Some place)).refusals = ap (λ k. (filter_at filters (Some k)).refusals) e in
    omega (arith, rose, now, was)
risen_at filters place s within rose q (inr ne) =
    let same : (filter_at (slice_set filters place s) (Some q)).refusals ≡ (filter_at filters (Some q)).refusals = ap (λ (x : FilterState). x.refusals) (get_or-set_other filters place q s no_filter ne) in
    omega (arith, same)

pub keeps_set : (old new : HeldView) (place : ℕ) (s : FilterState) → old.miniport.refusals ≤ new.miniport.refusals → new.filters ≡ slice_set old.filters place s → place < length old.filters
    → s.kind ≡ (filter_at old.filters (Some place)).kind → (filter_at old.filters (Some place)).refusals ≤ s.refusals → KeepsCounts old new
keeps_set old new place s miniport is within kind rose = record {
  miniport = miniport;
  filters = λ q. subst (λ fs. (filter_at old.filters (Some q)).refusals ≤ (filter_at fs (Some q)).refusals) (sym is) (risen_at old.filters place s within rose q (cases_eq q place));
  kinds = ap (map (λ (x : FilterState). x.kind)) is ∙ map-set_same (λ (x : FilterState). x.kind) old.filters place s no_filter kind;
}

-- what rose didn't fall
pub risen_most : (n n' : ℕ) → IsRisen n n' → n ≤ n'
risen_most n n' (inl rose) = omega (arith, rose)
risen_most n n' (inr last) = omega (arith, last.1)
