use Rattle.std.proofs.Common.{ℕ, ◌+◌, ◌≤◌, arith}
use Rattle.journal_types.specs.declared.Event.TheVariants.{Drain, Pump}
use Rattle.drain_examples.specs.Laws.{BeginsPause, LowersWork, LowersWorkWhileStill, PauseAddsNothing}
use Rattle.drain_examples.proofs.Turns.{each_turn}
use Rattle.drain_examples.proofs.laws.see_laws.Goals as goal

nothing_more : (m n : ℕ) → m ≤ n + 0 → m ≤ n
nothing_more m n h = omega (arith, h)

pub returns : goal.returns
returns c = record {
  pumps = each_turn (LowersWork Pump) _ _ c.requires.sound (λ before turn s next is moved. c.pumps_lower_work.ensures _ before turn s c.requires.bound next is moved);
  drains = each_turn (LowersWorkWhileStill Drain) _ _ c.requires.sound (λ before turn s next still is moved. c.drains_lower_work.ensures.still _ before turn s c.requires.bound still next is moved);
  pauses = each_turn PauseAddsNothing _ _ c.requires.sound (λ before turn s next is. nothing_more _ _ (c.pauses_add_nothing.ensures.pause _ before turn s next is));
  begins = each_turn BeginsPause _ _ c.requires.sound (λ before turn s next is told. c.accepted_pauses_begin.ensures _ turn next is told);
  bounded = c.drains_are_bounded.ensures _ _ _ c.requires.sound c.requires.pausing c.requires.draining;
  in_time = c.pauses_end_in_time.ensures _ _ _ c.requires.sound c.requires.pausing c.requires.uncrossed c.requires.driven;
}
