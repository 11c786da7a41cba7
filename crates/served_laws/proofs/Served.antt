-- What is promised of the calls and the logs of a journal is what the states before its rows tell.
use Rattle.std.proofs.Common.{◌≡◌, Bool, List, [], ◌∷◌, ◌++◌, flat_map, sum_by, count_by, refl, sym, ap, ◌∙◌, subst, arith, append_assoc, append-nil}
use Rattle.std.proofs.lemmas.List.Sums.{sum_by-cons}
use Rattle.ndis_base.specs.declared.ModuleId.{ModuleId}
use Rattle.journal_types.specs.declared.Row.{Row}
use Rattle.journal_types.specs.declared.StackHead.{StackHead}
use Rattle.journal_types.specs.declared.Turn.{Turn}
use Rattle.stack_rules.specs.Net.{Net, start, seen, told, after, after_turn, after_turns}
use Rattle.stack_rules.specs.Sound.{Sound, SoundFrom}
use Rattle.rule_basics.proofs.Counts.{count_by-append}
use Rattle.state_laws.specs.Shape.{IsShaped}
use Rattle.state_laws.proofs.Events.{shaped_start}
use Rattle.home_laws.specs.Rows.{rows_of}
use Rattle.home_laws.proofs.Fits.{empty, registered_rows}
use Rattle.home_laws.proofs.Agreed.{Agrees, agrees_after, agrees_told}
use Rattle.home_laws.proofs.Registers.{registered_rows-append}
use Rattle.home_laws.proofs.Events.{journal_fits}
use Rattle.home_laws.proofs.Standing.{sound_front}
use Rattle.request_laws.proofs.Rows.{IsKept, kept_start}
use Rattle.completion_laws.proofs.Events.{IsEnded, ended_journal, kept_turn, shaped_turn, sorted_turn}
use Rattle.request_standing_laws.specs.Standing.{RequestsStandByRows}
use Rattle.request_standing_laws.proofs.Stands.{each_request_stands}
use Rattle.promise_rules.specs.declared.Call.{Call}
use Rattle.promise_rules.specs.declared.Called.{Called}
use Rattle.promise_rules.specs.Calls.{calls_at, is_call_of, logged_at}
use Rattle.book_lemmas.specs.Did.{calls_now, calls_in, calls_of}
use Rattle.book_lemmas.proofs.Calls.{log_is}
use Rattle.served_laws.specs.Served.{EachIsServed, EachIsLogged, EachAddsCalls, EachAddsLogs}
use Rattle.served_laws.proofs.Asked.{AskedOnce, once_turn, once_start}
use Rattle.served_laws.proofs.Dones.{IsBefore, AreDonesTold, dones_told}
use Rattle.served_laws.proofs.Homes.{IsPlace, place, calls_told}

-- what more rows and turns add
flat_more : {X Y : Type 0} (f : X → List Y) (xs ys : List X) → flat_map f (xs ++ ys) ≡ flat_map f xs ++ flat_map f ys
flat_more f [] ys = refl
flat_more f (x ∷ xs) ys = ap (λ zs. f x ++ zs) (flat_more f xs ys) ∙ sym (append_assoc (f x) (flat_map f xs) (flat_map f ys))

rows_more : (before more : List Turn) → rows_of (before ++ more) ≡ rows_of before ++ rows_of more
rows_more before more = flat_more (λ (t : Turn). t.rows) before more

rows_push : (before : List Turn) (t : Turn) → rows_of (before ++ t ∷ []) ≡ rows_of before ++ t.rows
rows_push before t = rows_more before (t ∷ []) ∙ ap (λ rows. rows_of before ++ rows) (append-nil t.rows)

turns_push : (net : Net) (before : List Turn) (t : Turn) → after_turns net (before ++ t ∷ []) ≡ after_turn (after_turns net before) t
turns_push net [] t = refl
turns_push net (b ∷ before) t = turns_push (after_turn net b) before t

module _ (head : StackHead) (all : List Turn) (s : Sound head all) (m : ModuleId) (what : Called) where
  rows_count : (net : Net) (before rows later : List Row) → rows_of all ≡ before ++ (rows ++ later) → Agrees net (registered_rows empty before) → AreDonesTold (rows_of all) net rows
      → sum_by (λ r. count_by (is_call_of m what) (calls_at all r)) rows ≡ count_by (is_call_of m what) (calls_in net rows)
  rows_count net before [] later is a d = refl
  rows_count net before (r ∷ rows) later is a d =
      let p : Call → Bool = is_call_of m what in
      let at : IsPlace before r = place head all before (rows ++ later) r s is in
      let then : Agrees (after net r) (registered_rows empty (before ++ r ∷ [])) =
      subst (Agrees (after net r)) (sym (registered_rows-append empty before (r ∷ []))) (agrees_after net (registered_rows empty before) r a at.sane at.here) in
      let here : count_by p (calls_at all r) ≡ count_by p (calls_now net r) = ap (count_by p) (calls_told head all net before (rows ++ later) r s is a d.0) in
      let more = rows_count (after net r) (before ++ r ∷ []) rows later (is ∙ sym (append_assoc before (r ∷ []) (rows ++ later))) then d.1 in
      let split = count_by-append p (calls_now net r) (calls_in (after net r) rows) in
      let cons = sum_by-cons (λ r. count_by p (calls_at all r)) r rows in
      omega (arith, here, more, split, cons)

  turns_count : (net : Net) (before more : List Turn) → all ≡ before ++ more → seen head before ≡ net → IsShaped net → IsKept net → AskedOnce (rows_of before) net → SoundFrom net more
      → sum_by (λ t. sum_by (λ r. count_by (is_call_of m what) (calls_at all r)) t.rows) more ≡ count_by (is_call_of m what) (calls_of net more)
  turns_count net before [] are is shaped kept once n = refl
  turns_count net before (t ∷ ts) are is shaped kept once n =
      let p : Call → Bool = is_call_of m what in
      let past : List Row = rows_of before in
      let begun : Net = told net t.event t.reply in
      let front : Sound head before = sound_front head before (t ∷ ts) (subst (Sound head) are s) in
      let known : IsBefore past net = record {
        kept = kept;
        stands = subst (RequestsStandByRows past) is (each_request_stands head before front);
        ended = subst (IsEnded past) is (ended_journal head before front);
        once = once;
      } in
      let agrees : Agrees net (registered_rows empty past) = subst (λ (x : Net). Agrees x (registered_rows empty past)) is (journal_fits head before front).agrees in
      let rows : rows_of all ≡ past ++ (t.rows ++ rows_of ts) = ap rows_of are ∙ rows_more before (t ∷ ts) in
      let dones : AreDonesTold (rows_of all) begun t.rows = dones_told (rows_of all) past (rows_of ts) net begun t.rows rows known (sorted_turn net t kept n.0) in
      let then : AskedOnce (rows_of (before ++ t ∷ [])) (after_turn net t) = subst (λ rs. AskedOnce rs (after_turn net t)) (sym (rows_push before t)) (once_turn past net t kept n.0 once) in
      let one = rows_count begun past t.rows (rows_of ts) rows (agrees_told net (registered_rows empty past) t.event t.reply agrees) dones in
      let rest = turns_count (after_turn net t) (before ++ t ∷ []) ts (are ∙ sym (append_assoc before (t ∷ []) ts)) (turns_push (start head) before t ∙ ap (λ x. after_turn x t) is)
      (shaped_turn net t shaped n.0) (kept_turn net t shaped kept n.0) then n.1 in
      let split = count_by-append p (calls_in begun t.rows) (calls_of (after_turn net t) ts) in
      let cons = sum_by-cons (λ (t : Turn). sum_by (λ r. count_by p (calls_at all r)) t.rows) t ts in
      omega (arith, one, rest, split, cons)

pub each_is_served : EachIsServed
each_is_served head turns s m what = turns_count head turns s m what (start head) [] turns refl refl (shaped_start head) (kept_start head) (once_start head) s

pub each_is_logged : EachIsLogged
each_is_logged turns m = log_is turns m

calls_more : (net : Net) (before more : List Turn) → calls_of net (before ++ more) ≡ calls_of net before ++ calls_of (after_turns net before) more
calls_more net [] more = refl
calls_more net (t ∷ before) more =
    let begun : Net = told net t.event t.reply in
    ap (λ calls. calls_in begun t.rows ++ calls) (calls_more (after_turn net t) before more)
    ∙ sym (append_assoc (calls_in begun t.rows) (calls_of (after_turn net t) before) (calls_of (after_turns (after_turn net t) before) more))

pub each_adds_calls : EachAddsCalls
each_adds_calls head before more m what =
    ap (count_by (is_call_of m what)) (calls_more (start head) before more) ∙ count_by-append (is_call_of m what) (calls_of (start head) before) (calls_of (seen head before) more)

pub each_adds_logs : EachAddsLogs
each_adds_logs before more m = ap (flat_map (logged_at m)) (rows_more before more) ∙ flat_more (logged_at m) (rows_of before) (rows_of more)
