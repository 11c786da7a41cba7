-- No turn changes the head of a stack.
use Rattle.std.proofs.Common.{◌≡◌, List, [], ◌∷◌, Option, Some, None, refl, ap, ◌∙◌}
use Rattle.ndis_base.specs.declared.ModuleId.TheVariants.{Miniport, Filter, Binding}
use Rattle.journal_types.specs.declared.Event.{Event}
use Rattle.journal_types.specs.declared.Event.TheVariants as event
use Rattle.journal_types.specs.declared.PhaseOf.TheVariants as of
use Rattle.journal_types.specs.declared.Reply.{Reply}
use Rattle.journal_types.specs.declared.Reply.TheVariants as reply
use Rattle.journal_types.specs.declared.Row.{Row}
use Rattle.journal_types.specs.declared.Row.TheVariants as row
use Rattle.journal_types.specs.declared.StackHead.{StackHead}
use Rattle.journal_types.specs.declared.Turn.{Turn}
use Rattle.stack_rules.specs.Net.{Net, start, seen, told, after, after_rows, after_turn, after_turns}
use Rattle.book_lemmas.specs.Between.{IsBetween}
use Rattle.driver_tray.specs.Tray.{begun_by}
use Rattle.book_lemmas.specs.Follows.{Follows}

head_row : (net : Net) (r : Row) → (after net r).head ≡ net.head
head_row net (row.Phase (of.Module Miniport s)) = refl
head_row net (row.Phase (of.Module (Filter f) s)) = refl
head_row net (row.Phase (of.Module (Binding b) s)) = refl
head_row net (row.Phase (of.Stack p)) = refl
head_row net _ = refl

pub head_rows : (net : Net) (rows : List Row) → (after_rows net rows).head ≡ net.head
head_rows net [] = refl
head_rows net (r ∷ rows) = head_rows (after net r) rows ∙ head_row net r

pub head_told : (net : Net) (e : Event) (r : Reply) → (told net e r).head ≡ net.head
head_told net (event.Insert kind position setup) (reply.Inserted f) = refl
head_told net (event.Replace old kind setup) (reply.Replaced f) = refl
head_told net (event.CrossTakeUp binding vlan) (reply.Taken message frames) = refl
head_told net e r = refl

head_turns : (net : Net) (turns : List Turn) → (after_turns net turns).head ≡ net.head
head_turns net [] = refl
head_turns net (turn ∷ turns) = head_turns (after_turn net turn) turns ∙ head_rows (told net turn.event turn.reply) turn.rows ∙ head_told net turn.event turn.reply

-- the state has the head that its journal has
pub head_seen : (head : StackHead) (turns : List Turn) → (seen head turns).head ≡ head
head_seen head turns = head_turns (start head) turns

head_begun : (net : Net) (told_by : Option (Event × Reply)) → (begun_by net told_by).head ≡ net.head
head_begun net None = refl
head_begun net (Some telling) = head_told net telling.0 telling.1

pub head_followed : {head : StackHead} {turns : List Turn} {told_by : Option (Event × Reply)} {net : Net} {rows : List Row} → Follows head turns told_by net rows → net.head ≡ head
head_followed {head} {turns} {told_by} {net} {rows} f =
    ap (λ (n : Net). n.head) f.state ∙ head_rows (begun_by (seen head turns) told_by) rows ∙ head_begun (seen head turns) told_by ∙ head_seen head turns

pub head_between : {head : StackHead} {turns : List Turn} {net : Net} → IsBetween head turns net → net.head ≡ head
head_between {head} {turns} {net} b = ap (λ (n : Net). n.head) b.is ∙ head_seen head turns
