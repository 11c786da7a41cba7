-- The laws at the journal of a whole run.
use Rattle.std.proofs.Common.{◌≡◌, ◌⊎◌, inl, inr, List, ap, sym, subst, ◌∙◌}
use Rattle.ndis_base.specs.declared.Phase.TheVariants as phase
use Rattle.journal_types.specs.declared.StackHead.{StackHead}
use Rattle.journal_types.specs.declared.Turn.{Turn}
use Rattle.stack_rules.specs.Net.{Net, seen}
use Rattle.stack_rules.specs.Sound.{Sound}
use Rattle.home_laws.specs.Rows.{rows_of}
use Rattle.home_laws.proofs.Homes.{home_once, home_at_owner, shows_issued}
use Rattle.home_laws.proofs.Events.{journal_fits}
use Rattle.home_laws.proofs.Standing.{sound_front}
use Rattle.pause_laws.proofs.Turns.{holds_nothing, none_while_paused, none_while_halted}
use Rattle.ended_laws.specs.Ended.{EachIsHome}
use Rattle.ended_laws.proofs.Ended.{each_is_home}
use Rattle.configuration_laws.proofs.Chain.{each_has_one_configuration}
use Rattle.fate_laws.proofs.Both.{all_meet_their_fates}
use Rattle.completion_laws.proofs.Completes.{each_completes_once}
use Rattle.serialization_laws.proofs.Overs.{all_are_done}
use Rattle.script_types.specs.declared.Call.{Call}
use Rattle.script_types.specs.declared.FilterSetup.{FilterSetup}
use Rattle.book_lemmas.specs.Views.{BookView}
use Rattle.book_parts.proofs.Ended.{idle_state}
use Rattle.book_runs.specs.Runs.{IsBetween}
use Rattle.book_scripts.specs.Laws.{MeetsLaws}
use Rattle.book_scripts.specs.Scripts.{RunsWhole}

-- while a stack is Paused or Halted, each list that was issued is home
home_in_quiet : (head : StackHead) (turns : List Turn) → Sound head turns → ((seen head turns).phase ≡ phase.Paused) ⊎ ((seen head turns).phase ≡ phase.Halted) → EachIsHome (rows_of turns)
home_in_quiet head turns s (inl paused) = each_is_home head turns s (none_while_paused head turns s paused)
home_in_quiet head turns s (inr halted) = each_is_home head turns s (none_while_halted head turns s halted)

meets_laws : (head : StackHead) (turns : List Turn) → Sound head turns → (seen head turns).phase ≡ phase.Halted → MeetsLaws head turns
meets_laws head turns s at = record {
  halted = at;
  once = home_once (rows_of turns) (journal_fits head turns s).fit;
  at_owner = home_at_owner (rows_of turns) (journal_fits head turns s).fit;
  home = each_is_home head turns s (none_while_halted head turns s at);
  home_when_quiet = λ before later split quiet. home_in_quiet head before (sound_front head before later (subst (Sound head) split s)) quiet;
  shown = shows_issued (rows_of turns) (journal_fits head turns s).fit;
  empty = λ before later split. holds_nothing head before (sound_front head before later (subst (Sound head) split s));
  configuration = each_has_one_configuration head turns s;
  fates = all_meet_their_fates head turns s;
  requests = each_completes_once head turns s;
  completed = all_are_done head turns s at;
}

-- the journal of a whole run is sound
pub run_is_sound : (filters : List FilterSetup) (calls : List Call) (a b : BookView) → RunsWhole filters calls a b → Sound a.tray.head b.tray.turns
run_is_sound filters calls a b w = subst (λ (h : StackHead). Sound h b.tray.turns) w.head_is w.now.between.book.follows.sound

-- and so it meets the laws
pub run_meets_laws : (filters : List FilterSetup) (calls : List Call) (a b : BookView) → RunsWhole filters calls a b → MeetsLaws a.tray.head b.tray.turns
run_meets_laws filters calls a b w =
    let k : IsBetween b = w.now.between in
    let at : (seen a.tray.head b.tray.turns).phase ≡ phase.Halted =
    ap (λ (h : StackHead). (seen h b.tray.turns).phase) (sym w.head_is) ∙ sym (ap (λ (n : Net). n.phase) (idle_state b k.book k.idle)) ∙ w.now.phase_is in
    meets_laws a.tray.head b.tray.turns (run_is_sound filters calls a b w) at
