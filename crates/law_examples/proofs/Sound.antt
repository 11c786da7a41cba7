-- A sound journal stays sound by a turn that the rules give.
use Rattle.std.proofs.Common.{◌≡◌, Bool, true, List, [], ◌∷◌, ◌++◌, refl, ap, sym, ◌∙◌, subst}
use Rattle.ndis_base.specs.declared.Who.{Who}
use Rattle.journal_types.specs.declared.PhaseOf.TheVariants as of
use Rattle.journal_types.specs.declared.Event.{Event}
use Rattle.journal_types.specs.declared.Event.TheVariants as event
use Rattle.journal_types.specs.declared.Reply.{Reply}
use Rattle.journal_types.specs.declared.Reply.TheVariants as reply
use Rattle.journal_types.specs.declared.Row.{Row}
use Rattle.journal_types.specs.declared.Row.TheVariants as row
use Rattle.journal_types.specs.declared.StackHead.{StackHead}
use Rattle.journal_types.specs.declared.Turn.{Turn}
use Rattle.stack_rules.specs.Conditions.{may_ask}
use Rattle.stack_rules.specs.Net.{Net, start, seen, after, after_rows, told, after_turn, after_turns}
use Rattle.stack_rules.specs.Sound.{Sound, SoundFrom, Next}
use Rattle.plain_walk.specs.Choices.{choice_for}
use Rattle.plain_walk.specs.Walked.{Walked, turn_of, next_turn}

head_after : (net : Net) (r : Row) → (after net r).head ≡ net.head
head_after net (row.Phase (of.Module m s)) = refl
head_after net (row.Phase (of.Stack p)) = refl
head_after net _ = refl

head_rows : (net : Net) (rows : List Row) → (after_rows net rows).head ≡ net.head
head_rows net [] = refl
head_rows net (r ∷ rows) = head_rows (after net r) rows ∙ head_after net r

head_told : (net : Net) (e : Event) (r : Reply) → (told net e r).head ≡ net.head
head_told net (event.Insert kind position setup) (reply.Inserted f) = refl
head_told net (event.Replace old kind setup) (reply.Replaced f) = refl
head_told net (event.CrossTakeUp binding vlan) (reply.Taken message frames) = refl
head_told net _ _ = refl

head_turns : (net : Net) (turns : List Turn) → (after_turns net turns).head ≡ net.head
head_turns net [] = refl
head_turns net (t ∷ ts) = head_turns (after_turn net t) ts ∙ (head_rows (told net t.event t.reply) t.rows ∙ head_told net t.event t.reply)

sound_more : (net : Net) (turns : List Turn) (turn : Turn) → SoundFrom net turns → Next (after_turns net turns) turn → SoundFrom net (turns ++ turn ∷ [])
sound_more net [] turn s n = (n, tt)
sound_more net (t ∷ turns) turn s n = (s.0, sound_more (after_turn net t) turns turn s.1 n)

next_of : (net : Net) (who : Who) (e : Event) → may_ask net.head e ≡ true → Next net (turn_of net who e)
unfolding turn_of
next_of net who e may = record { choice = choice_for e; asked = may; reply = refl; rows = refl }

-- one more turn by the rules
pub sound_turn : (head : StackHead) (turns : List Turn) (who : Who) (e : Event) → Sound head turns → may_ask head e ≡ true → Sound head (turns ++ turn_of (seen head turns) who e ∷ [])
sound_turn head turns who e s may =
    let same : (seen head turns).head ≡ head = head_turns (start head) turns in
    sound_more (start head) turns (turn_of (seen head turns) who e) s (next_of (seen head turns) who e (ap (λ h. may_ask h e) same ∙ may))

-- the same as a walked stack tells it
pub sound_asked : (old : Walked) (head now : StackHead) (turns : List Turn) (who : Who) (e : Event) (may : Bool) → Sound old.head old.turns → may ≡ may_ask now e → now ≡ old.head → may ≡ true
    → head ≡ old.head → turns ≡ old.turns ++ next_turn old who e ∷ [] → Sound head turns
sound_asked old head now turns who e may s asks same is heads more =
    rw (heads, more) (sound_turn old.head old.turns who e s (ap (λ h. may_ask h e) (sym same) ∙ (sym asks ∙ is)))

nil_end : (turns : List Turn) → turns ≡ turns ++ []
nil_end [] = refl
nil_end (t ∷ ts) = ap (λ rest. t ∷ rest) (nil_end ts)

-- nothing follows
pub sound_end : (head : StackHead) (turns : List Turn) → Sound head turns → Sound head (turns ++ [])
sound_end head turns s = subst (λ ts. Sound head ts) (nil_end turns) s
