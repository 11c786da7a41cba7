-- The words of rows.
use Rattle.std.specs.Prelude.{ℕ, List, [], ◌∷◌, Option, Some, None, codes, decimal, map}
use Rattle.ndis_base.specs.Names.{state_text, phase_text, list_status_text, oid_status_text, oid_kind_text, status_name_text, direction_text}
use Rattle.ndis_base.specs.declared.OidNo.{OidNo}
use Rattle.ndis_base.specs.declared.Origin.{Origin}
use Rattle.ndis_base.specs.declared.Origin.TheVariants as origin
use Rattle.journal_types.specs.declared.Target.{Target}
use Rattle.journal_types.specs.declared.Handler.{Handler}
use Rattle.journal_types.specs.declared.Handler.TheVariants as handler
use Rattle.journal_types.specs.declared.PassWay.{PassWay}
use Rattle.journal_types.specs.declared.PassWay.TheVariants as pass_way
use Rattle.journal_types.specs.declared.How.{How}
use Rattle.journal_types.specs.declared.How.TheVariants as how
use Rattle.journal_types.specs.declared.PhaseOf.{PhaseOf}
use Rattle.journal_types.specs.declared.PhaseOf.TheVariants as phase_of
use Rattle.journal_types.specs.declared.Way.{Way}
use Rattle.journal_types.specs.declared.Way.TheVariants as way
use Rattle.journal_types.specs.declared.OutWay.{OutWay}
use Rattle.journal_types.specs.declared.OutWay.TheVariants as out_way
use Rattle.journal_types.specs.declared.Row.{Row}
use Rattle.journal_types.specs.declared.Row.TheVariants as row
use Rattle.journal_words.specs.Words.{module_text, target_text, filter_text, binding_text, frames_text, value_text, code_text, optional_text}

abbrev pub handler_text : Handler → List ℕ
handler_text handler.Send = codes "send"
handler_text handler.SendComplete = codes "send_complete"
handler_text handler.Receive = codes "receive"
handler_text handler.ReceiveLent = codes "receive_lent"
handler_text handler.Returned = codes "returned"

abbrev pub how_text : How → List ℕ
how_text how.Own = codes "own"
how_text how.Lent = codes "lent"

abbrev pub way_text : Way → List ℕ
way_text way.Down = codes "down"
way_text way.Up = codes "up"

-- where a list comes from, and its frames
abbrev pub issued_words : Origin → List (List ℕ) → List (List ℕ)
issued_words origin.Root frames = codes "-" ∷ frames_text frames ∷ []
issued_words (origin.Clone list) frames = codes "clone" ∷ decimal list.0 ∷ frames_text frames ∷ []
issued_words (origin.Copy list) frames = codes "copy" ∷ decimal list.0 ∷ frames_text frames ∷ []

-- which way a list is passed and where, and how it was done with
abbrev pub pass_words : PassWay → Target → List (List ℕ)
pass_words pass_way.Down target = codes "down" ∷ target_text target ∷ []
pass_words (pass_way.Done status) target = codes "done" ∷ target_text target ∷ list_status_text status ∷ []
pass_words pass_way.Up target = codes "up" ∷ target_text target ∷ []
pass_words (pass_way.Back status) target = codes "back" ∷ target_text target ∷ list_status_text status ∷ []

-- a module and its state, or s and the stack's phase
abbrev pub phase_words : PhaseOf → List (List ℕ)
phase_words (phase_of.Module module_id state) = module_text module_id ∷ state_text state ∷ []
phase_words (phase_of.Stack phase) = codes "s" ∷ phase_text phase ∷ []

-- the filters of a configuration from top to bottom
abbrev pub config_words : List ℕ → List (List ℕ)
config_words [] = codes "-" ∷ []
config_words (filter ∷ filters) = filter_text filter ∷ map filter_text filters

abbrev pub parent_text : Option OidNo → List ℕ
parent_text None = codes "-"
parent_text (Some request) = decimal request.0

-- which way a message leaves, and the list that it was taken from
abbrev pub out_words : OutWay → List (List ℕ) → List (List ℕ)
out_words (out_way.Down list) frames = codes "down" ∷ decimal list.0 ∷ frames_text frames ∷ []
out_words out_way.Up frames = codes "up" ∷ codes "-" ∷ frames_text frames ∷ []

abbrev pub row_words : Row → List (List ℕ)
row_words (row.Issue list owner config direction cancel origin frames) = codes "issue" ∷ decimal list.0 ∷ module_text owner ∷ decimal config.0 ∷ direction_text direction ∷ optional_text cancel ∷ issued_words origin frames
row_words (row.Give list module_id handler) = codes "give" ∷ decimal list.0 ∷ module_text module_id ∷ handler_text handler ∷ []
row_words (row.Pass list way target) = codes "pass" ∷ decimal list.0 ∷ pass_words way target
row_words (row.Keep list module_id) = codes "keep" ∷ decimal list.0 ∷ module_text module_id ∷ []
row_words (row.TurnBack list module_id status) = codes "turnback" ∷ decimal list.0 ∷ module_text module_id ∷ list_status_text status ∷ []
row_words (row.Home list owner status) = codes "home" ∷ decimal list.0 ∷ module_text owner ∷ list_status_text status ∷ []
row_words (row.Wire list frames) = codes "wire" ∷ decimal list.0 ∷ frames_text frames ∷ []
row_words (row.Deliver list binding how frames) = codes "deliver" ∷ decimal list.0 ∷ binding_text binding ∷ how_text how ∷ frames_text frames ∷ []
row_words (row.Phase of) = codes "phase" ∷ phase_words of
row_words (row.Config config filters) = codes "config" ∷ decimal config.0 ∷ config_words filters
row_words (row.OidIssue request parent binding kind code value) = codes "oidissue" ∷ decimal request.0 ∷ parent_text parent ∷ binding_text binding ∷ oid_kind_text kind ∷ code_text code ∷ value_text value ∷ []
row_words (row.OidGive request module_id) = codes "oidgive" ∷ decimal request.0 ∷ module_text module_id ∷ []
row_words (row.OidDone request status value) = codes "oiddone" ∷ decimal request.0 ∷ oid_status_text status ∷ value_text value ∷ []
row_words (row.Status number name target) = codes "status" ∷ decimal number.0 ∷ status_name_text name ∷ target_text target ∷ []
row_words (row.Seen number module_id) = codes "seen" ∷ decimal number.0 ∷ module_text module_id ∷ []
row_words (row.CrossOut message way frames) = codes "crossout" ∷ decimal message.0 ∷ out_words way frames
row_words (row.CrossIn stack message way frames) = codes "crossin" ∷ decimal stack ∷ decimal message.0 ∷ way_text way ∷ frames_text frames ∷ []
