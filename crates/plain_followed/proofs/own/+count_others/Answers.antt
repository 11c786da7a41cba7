-- One more turn of a lane stands in front of those that were counted.
use Rattle.std.proofs.Common.{◌≡◌, ◌≢◌, ◌≤◌, ◌+◌, ◌-◌, ℕ, All, List, [], ◌∷◌, length, take, drop, get_or, subst, arith}
use Rattle.std.proofs.lemmas.List.{take_rest}
use Rattle.ndis_base.specs.declared.Who.TheVariants as who
use Rattle.journal_types.specs.declared.Turn.{Turn}
use Rattle.plain_followed.proofs.OwnLemmas.{others_more}
use Rattle.plain_followed.proofs.own.+count_others.Goals as goal

others_at : (turns rest : List Turn) (n : ℕ) (turn : Turn) → rest ≡ drop 1 turns → 1 ≤ length turns → turn ≡ get_or turns 0 turn → turn.who ≢ who.Own → All (λ t. t.who ≢ who.Own) (take n rest) → All (λ t. t.who ≢ who.Own) (take (n + 1) turns)
others_at [] rest n turn same some is other others = absurd (omega arith)
others_at (t ∷ ts) rest n turn same some is other others =
    let P : Turn → Type 0 = λ first. first.who ≢ who.Own in
    let Q : List Turn → Type 0 = λ left. All (λ t. t.who ≢ who.Own) (take n left) in
    others_more t ts n (subst P is other) (subst Q same others)

pub returns-then-is_other-clause-others : goal.returns-then-is_other-clause-others
returns-then-is_other-clause-others t c =
    others_at c.args.turns.now (take (length c.args.turns.now - 1) (drop 1 c.args.turns.now)) c.count_others.result c.turn-item.result (take_rest c.args.turns.now 1) c.in-len1-up.len_at_least c.turn-item.is (c.is_other.ensures c.if-is_other.true) c.count_others.ensures.others
