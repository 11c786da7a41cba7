use Rattle.std.proofs.Common.{ap, ◌∙◌}
use Rattle.serde_json.specs.Data.{array}
use Rattle.serde_json.specs.View.{items_of}
use Rattle.serde_json.proofs.Views.{view-Array}
use Rattle.program_forms.specs.Form.{program_in}
use Rattle.program_forms.specs.Written.{program_data}
use Rattle.program_forms.proofs.RoundTrip.{program_in-program_data}
use Rattle.program_forms.proofs.writing.write.Goals as goal

pub returns-clause-read_back : goal.returns-clause-read_back
returns-clause-read_back c = λ h.
    ap program_in (view-Array c.in_ok-rule_values.field-0 ∙ ap (λ ds. array (items_of ds)) c.in_ok-rule_values.ensures ∙ ap program_data c.rules.ensures)
    ∙ program_in-program_data c.args.program.now h
