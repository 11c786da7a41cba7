-- A list on its way home goes to its owner, or to a filter of the order that has the pair of its way.
use Rattle.std.proofs.Common.{ℕ, ◌-◌, inl, inr, List, take, drop, reverse, refl, sym, subst, ◌∙◌}
use Rattle.ndis_base.specs.declared.ModuleId.{ModuleId}
use Rattle.journal_types.specs.declared.PassWay.TheVariants as way
use Rattle.journal_types.specs.declared.Target.{Target}
use Rattle.journal_types.specs.declared.Target.TheVariants.{Module}
use Rattle.stack_rules.specs.declared.LiveList.{LiveList}
use Rattle.stack_rules.specs.declared.Stand.{Stand}
use Rattle.stack_rules.specs.declared.Stand.TheVariants as stand
use Rattle.stack_rules.specs.Tests.{is_down}
use Rattle.stack_rules.specs.Net.{Modules, seen}
use Rattle.stack_rules.specs.Places.{position}
use Rattle.stack_rules.specs.Targets.{has_send, has_receive, next_done}
use Rattle.stack_rules.specs.Rewires.{is_in}
use Rattle.pause_laws.proofs.Places.{found_or}
use Rattle.place_laws.proofs.Spots.{in_drop, in_take, in_reverse}
use Rattle.outstanding_laws.proofs.Rows.{Fits, GoesBack}
use Rattle.outstanding_laws.proofs.Routes.{and_first, and_second}
use Rattle.outstanding_laws.proofs.Turns.{each_right}
use Rattle.homeward_laws.specs.Homeward.{GoesTowards, GoesHomeAt, GoesHome, EachGoesHome}

-- wherever a done send goes from, it goes to its owner or to a filter that passes sends
done_goes : (ms : Modules) (i : ℕ) (owner : ModuleId) → GoesTowards ms (has_send ms) owner (next_done ms i owner)
done_goes ms i owner =
    let top : ℕ = position ms.order owner in
    let fs : List ℕ = drop top (take (i - 1) ms.order) in
    found_or (GoesTowards ms (has_send ms) owner) (has_send ms) (reverse fs) (Module owner)
    (λ f h x. inr record { filter = f; is = refl; inside = in_take f (i - 1) ms.order (in_drop f top (take (i - 1) ms.order) (sym (in_reverse f fs) ∙ x)); pair = h })
    (inl refl)

back_goes : (ms : Modules) (owner : ModuleId) (to : Target) → GoesBack ms owner to → GoesTowards ms (has_receive ms) owner to
back_goes ms owner to (inl e) = inl e
back_goes ms owner to (inr g) =
    inr record { filter = g.0; is = g.1; inside = and_first (is_in g.0 ms.order) (has_receive ms g.0) g.2; pair = and_second (is_in g.0 ms.order) (has_receive ms g.0) g.2 }

goes_at : (ms : Modules) (l : LiveList) (s : Stand) → Fits ms (is_down l.direction) l.owner l.last s → GoesHomeAt ms l s
goes_at ms l stand.Unplaced h = tt
goes_at ms l (stand.Kept m) h = tt
goes_at ms l (stand.Passed way.Down to) h = tt
goes_at ms l (stand.Passed way.Up to) h = tt
goes_at ms l (stand.Passed (way.Done status) to) h =
    (h.0, subst (GoesTowards ms (has_send ms) l.owner) (sym h.1.1.0) (done_goes ms (position ms.order l.last) l.owner))
goes_at ms l (stand.Passed (way.Back status) to) h = (h.0, back_goes ms l.owner to h.1)

pub each_goes_home : EachGoesHome
each_goes_home head turns s bound = each_right head turns (GoesHome (seen head turns).modules) s bound (λ l h. goes_at (seen head turns).modules l l.stand h.0)
