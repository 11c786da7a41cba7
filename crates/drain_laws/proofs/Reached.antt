-- The states that sound journals lead to.
use Rattle.std.proofs.Common.{◌≡◌, ◌≤◌, List, [], ◌∷◌, ◌++◌, length, refl, arith, subst, sym, ◌∙◌, ap}
use Rattle.ndis_base.specs.declared.Phase.TheVariants as phase
use Rattle.journal_types.specs.declared.Event.{Event}
use Rattle.journal_types.specs.declared.Event.TheVariants as event
use Rattle.journal_types.specs.declared.PhaseOf.TheVariants as of
use Rattle.journal_types.specs.declared.Reply.{Reply}
use Rattle.journal_types.specs.declared.Reply.TheVariants as reply
use Rattle.journal_types.specs.declared.Row.{Row}
use Rattle.journal_types.specs.declared.Row.TheVariants as row
use Rattle.journal_types.specs.declared.StackHead.{StackHead}
use Rattle.journal_types.specs.declared.Turn.{Turn}
use Rattle.stack_rules.specs.Net.{Net, after, after_rows, after_turn, after_turns, seen, start, told}
use Rattle.stack_rules.specs.Sound.{Next, Sound, SoundFrom}
use Rattle.state_laws.proofs.Events.{at_phase, shaped_journal}

-- a sound journal leads to the state
pub record IsReached (head : StackHead) (net : Net) : Type 0 where
  pub turns : List Turn
  pub sound : Sound head turns
  pub is : seen head turns ≡ net

turn_last : (net : Net) (turns : List Turn) (turn : Turn) → after_turns net (turns ++ turn ∷ []) ≡ after_turn (after_turns net turns) turn
turn_last net [] turn = refl
turn_last net (t ∷ turns) turn = turn_last (after_turn net t) turns turn

sound_last : (net : Net) (turns : List Turn) (turn : Turn) → SoundFrom net turns → Next (after_turns net turns) turn → SoundFrom net (turns ++ turn ∷ [])
sound_last net [] turn s n = (n, tt)
sound_last net (t ∷ turns) turn s n = (s.0, sound_last (after_turn net t) turns turn s.1 n)

rest_from : (net : Net) (turns more : List Turn) → SoundFrom net (turns ++ more) → SoundFrom (after_turns net turns) more
rest_from net [] more s = s
rest_from net (turn ∷ turns) more s = rest_from (after_turn net turn) turns more s.1

front_from : (net : Net) (turns more : List Turn) → SoundFrom net (turns ++ more) → SoundFrom net turns
front_from net [] more s = tt
front_from net (turn ∷ turns) more s = (s.0, front_from (after_turn net turn) turns more s.1)

-- the first turns of a sound journal, and the others
pub reached_front : (head : StackHead) (turns more : List Turn) → Sound head (turns ++ more) → IsReached head (seen head turns)
reached_front head turns more s = record { turns = turns; sound = front_from (start head) turns more s; is = refl }

pub sound_rest : (head : StackHead) (turns more : List Turn) → Sound head (turns ++ more) → SoundFrom (seen head turns) more
sound_rest head turns more s = rest_from (start head) turns more s

-- one more turn
pub reached_next : (head : StackHead) (net : Net) (turn : Turn) → IsReached head net → Next net turn → IsReached head (after_turn net turn)
reached_next head net turn r n = record {
  turns = r.turns ++ turn ∷ [];
  sound = sound_last (start head) r.turns turn r.sound (subst (λ m. Next m turn) (sym r.is) n);
  is = turn_last (start head) r.turns turn ∙ ap (λ m. after_turn m turn) r.is;
}

-- what holds after every sound journal holds of the state
pub of_reached : (P : Net → Type 0) (head : StackHead) (net : Net) → IsReached head net → ((turns : List Turn) → Sound head turns → P (seen head turns)) → P net
of_reached P head net r f = subst P r.is (f r.turns r.sound)

-- the head stays
head_row : (net : Net) (r : Row) → (after net r).head ≡ net.head
head_row net (row.Phase (of.Module m s)) = refl
head_row net (row.Phase (of.Stack p)) = refl
head_row net _ = refl

head_rows : (net : Net) (rows : List Row) → (after_rows net rows).head ≡ net.head
head_rows net [] = refl
head_rows net (r ∷ rows) = head_rows (after net r) rows ∙ head_row net r

head_told : (net : Net) (e : Event) (r : Reply) → (told net e r).head ≡ net.head
head_told net (event.Insert kind position setup) (reply.Inserted f) = refl
head_told net (event.Replace old kind setup) (reply.Replaced f) = refl
head_told net (event.CrossTakeUp binding vlan) (reply.Taken message frames) = refl
head_told net e r = refl

head_turns : (net : Net) (turns : List Turn) → (after_turns net turns).head ≡ net.head
head_turns net [] = refl
head_turns net (turn ∷ turns) = head_turns (after_turn net turn) turns ∙ head_rows (told net turn.event turn.reply) turn.rows ∙ head_told net turn.event turn.reply

-- a stack that pauses has a binding
pub some_binding : (head : StackHead) (turns : List Turn) → Sound head turns → (seen head turns).phase ≡ phase.Pausing → 1 ≤ length head.bindings
some_binding head turns s p =
    let net : Net = seen head turns in
    let f = at_phase net phase.Pausing (shaped_journal head turns s) p in
    let some = f.1.some in
    let same : length net.head.bindings ≡ length head.bindings = ap (λ (h : StackHead). length h.bindings) (head_turns (start head) turns) in
    omega (arith, some, same)
