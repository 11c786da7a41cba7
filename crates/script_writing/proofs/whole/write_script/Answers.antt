use Rattle.serde_json.specs.View.{view}
use Rattle.script_writing.proofs.Texts.{text_of_script, says_script}
use Rattle.script_writing.proofs.whole.write_script.Goals as goal

pub returns-clause-text : goal.returns-clause-text
returns-clause-text c = text_of_script c.in_ok-to_vec.field-0.items c.args.script.now (view c.in_ok-value.value) c.in_ok-value.ensures c.in_ok-to_vec.ensures.text

pub returns-clause-told : goal.returns-clause-told
returns-clause-told c = λ within short.
    says_script c.in_ok-to_vec.field-0.items c.args.script.now (view c.in_ok-value.value) c.in_ok-value.ensures c.in_ok-to_vec.ensures.utf8 c.in_ok-to_vec.ensures.reads_back within short
