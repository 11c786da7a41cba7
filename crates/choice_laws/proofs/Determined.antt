-- A journal has choices, and they determine it.
use Rattle.std.proofs.Common.{◌≡◌, List, [], ◌∷◌, true, refl, sym, ap, subst, ◌∙◌}
use Rattle.std.specs.Prelude.{map}
use Rattle.ndis_base.specs.declared.Who.{Who}
use Rattle.journal_types.specs.declared.StackHead.{StackHead}
use Rattle.journal_types.specs.declared.Asked.{Asked}
use Rattle.journal_types.specs.declared.Event.{Event}
use Rattle.journal_types.specs.declared.Reply.{Reply}
use Rattle.journal_types.specs.declared.Row.{Row}
use Rattle.journal_types.specs.declared.Turn.{Turn}
use Rattle.stack_rules.specs.declared.Choice.{Choice}
use Rattle.stack_rules.specs.Net.{Net, start, after_turn}
use Rattle.stack_rules.specs.Sound.{outcome, Next, SoundFrom}
use Rattle.choice_laws.specs.Choices.{IsChosen, AreChosen, asked_in, all_asked, HasChoices, EachHasChoices, ChoicesDetermine}

record FromHere (net : Net) (turns : List Turn) : Type 0 where
  choices : List Choice
  chosen : AreChosen net turns choices

from_here : (net : Net) (turns : List Turn) → SoundFrom net turns → FromHere net turns
from_here net [] s = record { choices = []; chosen = tt }
from_here net (turn ∷ turns) s =
    let rest : FromHere (after_turn net turn) turns = from_here (after_turn net turn) turns s.1 in
    let first : IsChosen net turn s.0.choice = record { may = s.0.asked; reply = s.0.reply; rows = s.0.rows } in
    record { choices = s.0.choice ∷ rest.choices; chosen = (first, rest.chosen) }

pub each_has_choices : EachHasChoices
each_has_choices head turns s =
    let all : FromHere (start head) turns = from_here (start head) turns s in
    record { choices = all.choices; chosen = all.chosen }

-- the first of a list, and the others
abbrev first_asked : Asked → List Asked → Asked
first_asked other [] = other
first_asked other (a ∷ as_rest) = a

abbrev others_asked : List Asked → List Asked
others_asked [] = []
others_asked (a ∷ as_rest) = as_rest

same_turn : (w v : Who) (e f : Event) (r q : Reply) (xs ys : List Row) → w ≡ v → e ≡ f → r ≡ q → xs ≡ ys →
    let one : Turn = record { who = w; event = e; reply = r; rows = xs } in
    let other : Turn = record { who = v; event = f; reply = q; rows = ys } in
    one ≡ other
same_turn w v e f r q xs ys a b c d = cc

same_here : (net : Net) (xs ys : List Turn) (cs : List Choice) → AreChosen net xs cs → AreChosen net ys cs → all_asked xs ≡ all_asked ys → xs ≡ ys
same_here net [] [] cs p q e = refl
same_here net [] (y ∷ ys) [] p q e = absurd q
same_here net [] (y ∷ ys) (c ∷ cs) p q e = absurd p
same_here net (x ∷ xs) [] [] p q e = absurd p
same_here net (x ∷ xs) [] (c ∷ cs) p q e = absurd q
same_here net (x ∷ xs) (y ∷ ys) [] p q e = absurd p
same_here net (x ∷ xs) (y ∷ ys) (c ∷ cs) p q e =
    let asked : asked_in x ≡ asked_in y = ap (first_asked (asked_in x)) e in
    let who : x.who ≡ y.who = ap (λ (a : Asked). a.who) asked in
    let event : x.event ≡ y.event = ap (λ (a : Asked). a.event) asked in
    let reply : x.reply ≡ y.reply = p.0.reply ∙ ap (λ f. (outcome net f c).reply) event ∙ sym q.0.reply in
    let rows : x.rows ≡ y.rows = p.0.rows ∙ ap (λ f. (outcome net f c).rows) event ∙ sym q.0.rows in
    let turn : x ≡ y = same_turn x.who y.who x.event y.event x.reply y.reply x.rows y.rows who event reply rows in
    let rest : AreChosen (after_turn net x) ys cs = subst (λ t. AreChosen (after_turn net t) ys cs) (sym turn) q.1 in
    ap (λ t. t ∷ xs) turn ∙ ap (λ ts. y ∷ ts) (same_here (after_turn net x) xs ys cs p.1 rest (ap others_asked e))

pub choices_determine : ChoicesDetermine
choices_determine head turns others choices p q e = same_here (start head) turns others choices p q e
