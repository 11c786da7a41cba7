use Rattle.std.specs.Prelude.{codes}
use Rattle.journal_lines.specs.Text.{head_line, stack_words, port_words, link_words, vlan_words}
use Rattle.journal_lines.proofs.Behind.{behind-four, line-ends}
use Rattle.journal_lines.proofs.lines.push_head.Goals as goal

pub returns : goal.returns
unfolding head_line
returns c =
    let head = c.args.head.now in
    line-ends c.text-2.result _ _ _ _
    (behind-four _ (codes "stack") _ _ (stack_words head) (port_words head.port) (link_words head.link) (vlan_words head.port.vlan) c.in_ok-text.ensures c.in_ok-push_head_words.ensures)
    c.text-2.ensures
