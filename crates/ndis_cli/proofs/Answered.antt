-- What the bytes that were read say of the script.
use Rattle.std.proofs.Common.{◌≡◌, ◌⊎◌, inl, inr, ℕ, List, [], ◌∷◌, ◌++◌, Option, Some, None, Result, Ok, Err, true, false, refl, sym, ◌∙◌, ap, subst, arith}
use Rattle.std.specs.Prelude.{IfSome, IsTrue, unwrap_or}
use Rattle.std.proofs.lemmas.List.{append-nil}
use Rattle.outside_io.specs.Edges.{before}
use Rattle.flat_journal.specs.Flat.{FlatView}
use Rattle.flat_report.specs.Report.{report}
use Rattle.script_types.specs.declared.Script.{Script}
use Rattle.script_types.specs.declared.StackSetup.{StackSetup}
use Rattle.script_types.specs.declared.ScriptPlace.{ScriptPlace}
use Rattle.script_types.specs.declared.ScriptPlace.TheVariants as place
use Rattle.script_types.specs.declared.ScriptCause.{ScriptCause}
use Rattle.script_types.specs.declared.ScriptCause.TheVariants as cause
use Rattle.script_types.specs.declared.ScriptFault.{ScriptFault}
use Rattle.script_types.specs.declared.ScriptFault.TheVariants as fault
use Rattle.script_forms.specs.Script.{Says, too_long, not_json, json, script_in}
use Rattle.script_file.specs.Reads.{ReadsAs}
use Rattle.command_words.specs.Words.{order_in, order_told}
use Rattle.script_runs.specs.Built.{is_built, IsRun}
use Rattle.ndis_cli.specs.declared.top.Status.{Status}
use Rattle.ndis_cli.specs.declared.top.Status.TheVariants as status
use Rattle.book_opening.specs.Opened.{HandedView}
use Rattle.ndis_cli.specs.Answers.{IsFaulty, no_script, not_built, IsFine, LacksFirst, LacksParts, AreBack, OthersAreLeft, GivesUp, GaveUp, Replayed, Wrote, IsOf, IsDone, IsWanting, is_early, ends_reading, ends_replay}

-- what was read to the end of input is all that was left
all-read : (P : List ℕ → Type 0) (old new : Option (List ℕ)) (bytes : List ℕ) → old ≡ before bytes new → IfSome new (λ rest. rest ≡ []) → P bytes → IfSome old P
all-read P old None bytes is end holds = subst (λ o. IfSome o P) (sym is) tt
all-read P old (Some rest) bytes is end holds = subst (λ o. IfSome o P) (sym is) (subst P (sym (ap (λ r. bytes ++ r) end ∙ append-nil bytes)) holds)

same-some : {A : Type 0} (d d' : A) → Some d ≡ Some d' → d ≡ d'
same-some d d' e = cc

-- a text says one thing
one : (bytes : List ℕ) (a b : Result Script ScriptFault) → Says bytes a → Says bytes b → a ≡ b
one bytes a b (too_long long e) (too_long long' e') = e ∙ sym e'
one bytes a b (too_long long e) (not_json short none e') = absurd (omega arith)
one bytes a b (too_long long e) (json short d is e') = absurd (omega arith)
one bytes a b (not_json short none e) (too_long long e') = absurd (omega arith)
one bytes a b (not_json short none e) (not_json short' none' e') = e ∙ sym e'
one bytes a b (not_json short none e) (json short' d is e') = absurd (none d is)
one bytes a b (json short d is e) (too_long long e') = absurd (omega arith)
one bytes a b (json short d is e) (not_json short' none e') = absurd (none d is)
one bytes a b (json short d is e) (json short' d' is' e') = e ∙ ap script_in (same-some d d' (sym is.read ∙ is'.read)) ∙ sym e'

same-place : (p at : ScriptPlace) (q why : ScriptCause) → status.BadScript p q ≡ status.BadScript at why → p ≡ at
same-place p at q why e = cc

same-cause : (p at : ScriptPlace) (q why : ScriptCause) → status.BadScript p q ≡ status.BadScript at why → q ≡ why
same-cause p at q why e = cc

-- the reader's fault is the script's
pub faulty : (old new : Option (List ℕ)) (bytes text : List ℕ) (told : ScriptFault) (p p' at : ScriptPlace) (q q' why : ScriptCause) → old ≡ before bytes new → IfSome new (λ rest. rest ≡ []) → text ≡ bytes → ReadsAs text (Err told) → told ≡ fault.Bad p q
    → p' ≡ p → q' ≡ q → status.BadScript p' q' ≡ status.BadScript at why → IfSome old (λ b. IsFaulty b at why)
faulty old new bytes text told p p' at q q' why is end same reads bad ep eq e =
    let is_at : p ≡ at = sym ep ∙ same-place p' at q' why e in
    let is_why : q ≡ why = sym eq ∙ same-cause p' at q' why e in
    let said : ReadsAs bytes (Err (fault.Bad p q)) = subst (λ t. ReadsAs t (Err (fault.Bad p q))) same (subst (λ f. ReadsAs text (Err f)) bad reads) in
    let said' : Says bytes (Err (fault.Bad at why)) = subst (λ a. Says bytes (Err (fault.Bad a why))) is_at (subst (λ w. Says bytes (Err (fault.Bad p w))) is_why said) in
    all-read (λ b. IsFaulty b at why) old new bytes is end (no_script said')

-- a script that can't be run is faulty
pub unbuilt : (old new : Option (List ℕ)) (bytes text : List ℕ) (script : Script) (at : ScriptPlace) (why : ScriptCause) → old ≡ before bytes new → IfSome new (λ rest. rest ≡ []) → text ≡ bytes → ReadsAs text (Ok script) → is_built script ≡ false
    → status.BadScript place.Whole cause.NotBuilt ≡ status.BadScript at why → IfSome old (λ b. IsFaulty b at why)
unbuilt old new bytes text script at why is end same reads un e =
    let said : Says bytes (Ok script) = subst (λ t. ReadsAs t (Ok script)) same reads in
    all-read (λ b. IsFaulty b at why) old new bytes is end
    (not_built script said un (sym (same-place place.Whole at cause.NotBuilt why e)) (sym (same-cause place.Whole at cause.NotBuilt why e)))

-- a script that can be run is what was read
fine : (old new : Option (List ℕ)) (bytes : List ℕ) → old ≡ before bytes new → IfSome new (λ rest. rest ≡ []) → (f : IsFine old) → Says bytes (Ok f.script)
fine old new bytes is end f =
    let same : f.bytes ≡ bytes = subst (λ o. IfSome o (λ b. b ≡ bytes)) f.told (all-read (λ b. b ≡ bytes) old new bytes is end refl) in
    subst (λ b. Says b (Ok f.script)) same f.is

clash : (s : Script) (f : ScriptFault) → Ok s ≡ Err f → ⊥
clash s f e = cc

same-ok : (s t : Script) → ◌≡◌ {A = Result Script ScriptFault} (Ok s) (Ok t) → s ≡ t
same-ok s t e = cc

differ : true ≡ false → ⊥
differ e = cc

-- bytes with a fault are no script that can be run
pub not-fine : (old new : Option (List ℕ)) (bytes text : List ℕ) (told : ScriptFault) (p : ScriptPlace) (q : ScriptCause) → old ≡ before bytes new → IfSome new (λ rest. rest ≡ []) → text ≡ bytes → ReadsAs text (Err told) → told ≡ fault.Bad p q → IsFine old → ⊥
not-fine old new bytes text told p q is end same reads bad f =
    let said : ReadsAs bytes (Err (fault.Bad p q)) = subst (λ t. ReadsAs t (Err (fault.Bad p q))) same (subst (λ w. ReadsAs text (Err w)) bad reads) in
    clash f.script (fault.Bad p q) (one bytes (Ok f.script) (Err (fault.Bad p q)) (fine old new bytes is end f) said)

pub not-unbuilt : (old new : Option (List ℕ)) (bytes text : List ℕ) (script : Script) → old ≡ before bytes new → IfSome new (λ rest. rest ≡ []) → text ≡ bytes → ReadsAs text (Ok script) → is_built script ≡ false → IsFine old → ⊥
not-unbuilt old new bytes text script is end same reads un f =
    let said : Says bytes (Ok script) = subst (λ t. ReadsAs t (Ok script)) same reads in
    let ok : f.script ≡ script = same-ok f.script script (one bytes (Ok f.script) (Ok script) (fine old new bytes is end f) said) in
    differ (sym f.built ∙ ap is_built ok ∙ un)

-- a script that can be run is the one that was read
pub same-script : (old new : Option (List ℕ)) (bytes text : List ℕ) (script : Script) → old ≡ before bytes new → IfSome new (λ rest. rest ≡ []) → text ≡ bytes → ReadsAs text (Ok script) → (f : IsFine old) → f.script ≡ script
same-script old new bytes text script is end same reads f =
    same-ok f.script script (one bytes (Ok f.script) (Ok script) (fine old new bytes is end f) (subst (λ t. ReadsAs t (Ok script)) same reads))

-- what was read is a script that can be run
pub is-of : (old new : Option (List ℕ)) (bytes text : List ℕ) (script : Script) → old ≡ before bytes new → IfSome new (λ rest. rest ≡ []) → text ≡ bytes → ReadsAs text (Ok script) → IsOf old script
is-of old new bytes text script is end same reads = all-read (λ b. Says b (Ok script)) old new bytes is end (subst (λ t. ReadsAs t (Ok script)) same reads)

never : false ≡ true → ⊥
never e = cc

-- how a call ends that ends while its script is read
pub no-usage : (s : Status) → IsTrue (ends_reading s) → s ≡ status.Usage → ⊥
no-usage s ends e = never (subst (λ x. IsTrue (ends_reading x)) e ends)

pub no-parts : (s : Status) (k : ℕ) → IsTrue (ends_reading s) → s ≡ status.NoParts k → ⊥
no-parts s k ends e = never (subst (λ x. IsTrue (ends_reading x)) e ends)

pub no-done : (s : Status) → IsTrue (ends_reading s) → s ≡ status.Done → ⊥
no-done s ends e = never (subst (λ x. IsTrue (ends_reading x)) e ends)

pub no-write : (s : Status) → IsTrue (ends_reading s) → s ≡ status.WriteFault → ⊥
no-write s ends e = never (subst (λ x. IsTrue (ends_reading x)) e ends)

-- it is by want of memory, where the text is a script that can be run and nothing failed
pub out-of-memory : (s : Status) (P Q : Type 0) → IsTrue (ends_reading s) → (s ≡ status.ReadFault → P) → ((at : ScriptPlace) (why : ScriptCause) → s ≡ status.BadScript at why → Q → ⊥) → (P → ⊥) → Q → s ≡ status.Memory
out-of-memory status.Done P Q ends fault bad none told = absurd (never ends)
out-of-memory status.Usage P Q ends fault bad none told = absurd (never ends)
out-of-memory (status.BadScript at why) P Q ends fault bad none told = absurd (bad at why refl told)
out-of-memory status.ReadFault P Q ends fault bad none told = absurd (none (fault refl))
out-of-memory status.WriteFault P Q ends fault bad none told = absurd (never ends)
out-of-memory status.Memory P Q ends fault bad none told = refl
out-of-memory (status.NoParts k) P Q ends fault bad none told = absurd (never ends)

pub is-done : (s : Status) → s ≡ status.Memory → IsDone s
is-done s e = subst IsDone (sym e) tt

pub is-wanting : (s : Status) → s ≡ status.Memory → IsWanting s
is-wanting s e = subst IsWanting (sym e) tt

-- how a call ends that ends later
pub not-usage : (s : Status) → IsTrue (ends_replay s) → s ≡ status.Usage → ⊥
not-usage s ends e = never (subst (λ x. IsTrue (ends_replay x)) e ends)

pub not-bad : (s : Status) (at : ScriptPlace) (why : ScriptCause) → IsTrue (ends_replay s) → s ≡ status.BadScript at why → ⊥
not-bad s at why ends e = never (subst (λ x. IsTrue (ends_replay x)) e ends)

pub not-read-fault : (s : Status) → IsTrue (ends_replay s) → s ≡ status.ReadFault → ⊥
not-read-fault s ends e = never (subst (λ x. IsTrue (ends_replay x)) e ends)

-- and early: then by drivers that are wanting
pub early-by : (s : Status) (P : Type 0) → IsTrue (ends_replay s) → IsTrue (is_early s) → ((k : ℕ) → s ≡ status.NoParts k → P) → P
early-by status.Done P ends early of = absurd (never early)
early-by status.Usage P ends early of = absurd (never ends)
early-by (status.BadScript at why) P ends early of = absurd (never ends)
early-by status.ReadFault P ends early of = absurd (never ends)
early-by status.WriteFault P ends early of = absurd (never early)
early-by status.Memory P ends early of = absurd (never early)
early-by (status.NoParts k) P ends early of = of k refl

-- a status by which drivers are wanting, or memory ran out, ends a replay
pub ends-wanting : (s : Status) → IsWanting s → IsTrue (ends_replay s)
ends-wanting status.Done w = absurd w
ends-wanting status.Usage w = absurd w
ends-wanting (status.BadScript at why) w = absurd w
ends-wanting status.ReadFault w = absurd w
ends-wanting status.WriteFault w = absurd w
ends-wanting status.Memory w = refl
ends-wanting (status.NoParts k) w = refl

pub stack-wanting : (s : Status) (k : ℕ) → IsWanting s → s ≡ status.NoParts k → k ≡ 0
stack-wanting s k w e = subst IsWanting e w

pub done-wanting : (s : Status) → IsWanting s → s ≡ status.Done → ⊥
done-wanting s w e = subst IsWanting e w

pub fault-wanting : (s : Status) → IsWanting s → s ≡ status.WriteFault → ⊥
fault-wanting s w e = subst IsWanting e w

pub done-enough : (s : Status) (P : Type 0) → IsWanting s → ((k : ℕ) → s ≡ status.NoParts k → P) → (P → ⊥) → IsDone s
done-enough status.Done P w of none = absurd w
done-enough status.Usage P w of none = absurd w
done-enough (status.BadScript at why) P w of none = absurd w
done-enough status.ReadFault P w of none = absurd w
done-enough status.WriteFault P w of none = absurd w
done-enough status.Memory P w of none = tt
done-enough (status.NoParts k) P w of none = absurd (none (of k refl))

-- drivers are wanting for the script that was read
pub lacks : (old : Option (List ℕ)) (script : Script) (parts : List HandedView) (k : ℕ) → IsOf old script → is_built script ≡ true → (k ≡ 0) × LacksFirst script parts → LacksParts old parts k
lacks old script parts k is built few = record { script = script; is = is; built = built; only = few.0; lacks = few.1 }

-- the report of a journal was begun
pub replayed : (How : Option (List ℕ) → Option (List ℕ) → List ℕ → Type 0) (held held' : Option (List ℕ)) (script : Script) (order : List ℕ) (journals : List FlatView) (journal : FlatView) (parts parts' : List HandedView)
    → journals ≡ journal ∷ [] → IsRun script order journal.head journal.turns → AreBack script.stacks journal.turns parts parts' → How held held' (report journals []) → Replayed How script order parts parts' held held'
replayed How held held' script order journals journal parts parts' only ran back written =
    record { journal = journal; ran = ran; back = back; written = subst (λ js. How held held' (report js [])) only written }

pub wrote : (How : Option (List ℕ) → Option (List ℕ) → List ℕ → Type 0) (words : List (List ℕ)) (order order' : List ℕ) (old held held' : Option (List ℕ)) (script : Script) (parts parts' : List HandedView) → Some order ≡ order_in words → order' ≡ order → IsOf old script → is_built script ≡ true → Replayed How script order' parts parts' held held' → Wrote How (order_told words) old parts parts' held held'
wrote How words order order' old held held' script parts parts' told same is built r =
    record { script = script; is = is; built = built; replayed = subst (λ (o : List ℕ). Replayed How script o parts parts' held held') (same ∙ ap (λ (o : Option (List ℕ)). unwrap_or o []) told) r }

-- what holds of the one script holds of what was read
pub of-same : (P : Script → Type 0) (a b : Script) → a ≡ b → P a → P b
of-same P a b e p = subst P e p

-- after want of memory the parts are as they were, or a run gave drivers up
pub gives-up : (P : Type 0) (stacks : List StackSetup) (parts parts' : List HandedView) → P ⊎ OthersAreLeft stacks parts parts' → P ⊎ GivesUp stacks parts parts'
gives-up P stacks parts parts' (inl same) = inl same
gives-up P stacks parts parts' (inr left) = inr (inl left)

pub gave-up : (P : Type 0) (old : Option (List ℕ)) (script : Script) (parts parts' : List HandedView) → IsOf old script → is_built script ≡ true → P ⊎ GivesUp script.stacks parts parts' → P ⊎ GaveUp old parts parts'
gave-up P old script parts parts' is built (inl same) = inl same
gave-up P old script parts parts' is built (inr gives) = inr (record { script = script; is = is; built = built; gives_up = gives })
