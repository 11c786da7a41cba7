-- What clap makes of the words behind `replay`.
use Rattle.std.specs.Prelude.{slice_get, drop, encode_utf8, ◌||◌, fold}
use Rattle.std.specs.List.{list_any}
use Rattle.std.specs.Option.{option_map_or}
use Rattle.std.specs.Str.{bytes_eq, chars}
use Rattle.std.proofs.Common.{ℕ, ◌≡◌, Bool, true, false, cond, List, [], ◌∷◌, Option, Some, None, refl, sym, ap, ap₂, ◌∙◌, codes, length, subst}
use Rattle.std.proofs.lemmas.Slice.Eq.{bytes_eq-Decides}
use Rattle.clap.specs.declared.builder.value_parser.Reading.TheVariants.{AsWritten}
use Rattle.clap.specs.declared.parser.matches.ValueSource.TheVariants.{CommandLine}
use Rattle.clap.specs.Lexer.{long_of, short_of}
use Rattle.clap.specs.Walk.{finished, first_of, settled, bundle_step, bundle_met, after_flag, plain, Row, Rule, Held, Walk, Step, Waiting, Text, idle, option, trailing, arg_by_short, arg_by_long, after_step, long_or_other, plain_word, short_or_plain, walked}
use Rattle.clap.specs.Simple.{Shape, filled, built_leaf, inherited}
use Rattle.clap.specs.Kinds.{Kinds, or_else}
use Rattle.clap.specs.Faults.{check_fault, defaults_fault, settle_fault, bundle_step_fault, flags_fault, bundle_fault, flag_word_fault, long_fault, short_fault, step_fault, turn_fault, walk_fault}
use Rattle.clap.specs.declared.error.kind.ErrorKind.{ErrorKind}
use Rattle.clap.proofs.OnLiterals.{clap_on_literals}
use Rattle.command_words.specs.Command.{asked, command, order_option, replay}
use Rattle.command_words.specs.Words.{order_in}
use Rattle.command_words.proofs.LongFlags.{long_word_of}

-- a list of kinds that has one is not empty
is_empty_kinds : Kinds → Bool
is_empty_kinds [] = true
is_empty_kinds (k ∷ ks) = false

pub some_kind : {A : Type 0} {k : ErrorKind} {ks : Kinds} → k ∷ ks ≡ [] → A
unfolding is_empty_kinds
some_kind e =
    let bad : false ≡ true = ap is_empty_kinds e in
    absurd (cc)

-- where two steps have no fault neither has
pub neither : (a b : Kinds) → or_else a b ≡ [] → (a ≡ []) × (b ≡ [])
neither [] b e = (refl, e)
neither (k ∷ ks) b e = some_kind e

-- the word that ends the options
abbrev pub dashes : Text
dashes = 45 ∷ 45 ∷ []

-- the subcommand as it is built
abbrev pub order_rule : Rule
order_rule = filled order_option

abbrev pub leaf : Shape
leaf = built_leaf (inherited command.top replay.top)

abbrev pub rules : List Rule
rules = order_rule ∷ []

-- what is held, and where the walk stands
abbrev pub held : List Row → Option (Text × List Text) → Held
held rows pending = record { rows = rows; pending = pending; skip = 0 }

abbrev pub at : List Row → Option (Text × List Text) → Waiting → Walk
at rows pending waiting = record { held = held rows pending; waiting = waiting; position = 1; is_trailing = false; stopped = None }

-- a word that is no long flag and is not refused is plain
pub flagless : (c : List Rule) → ((x : ℕ) → arg_by_short c x ≡ None) → (waiting : Waiting) (word : Text) (rows : List Row) (pending : Option (Text × List Text)) (o : Option Text)
    → option_map_or (λ flags. bundle_fault c false flags (held rows pending)) o [] ≡ []
    → short_or_plain c waiting word o (held rows pending) ≡ plain_word c waiting word (held rows pending)
unfolding clap_on_literals
flagless c none waiting word rows pending None e = refl
flagless c none waiting word rows pending (Some []) e = refl
flagless c none waiting word rows pending (Some (x ∷ xs)) e = by_first (slice_get (chars (x ∷ xs)) 0) e
  where
    by_first : (o : Option ℕ) → bundle_step_fault c false o (x ∷ xs) 0 (held rows pending) (flags_fault c false (length xs)) ≡ []
        → after_flag c waiting word (bundle_step c o (x ∷ xs) 0 plain (held rows pending) (bundle_met c (length xs))).0 (bundle_step c o (x ∷ xs) 0 plain (held rows pending) (bundle_met c (length xs))).1
        ≡ plain_word c waiting word (held rows pending)
    by_first None e = refl
    by_first (Some flag) e = some_kind (sym (ap (λ a. short_fault c false a (drop (length (encode_utf8 flag)) (x ∷ xs)) (held rows pending) (flags_fault c false (length xs) (drop (length (encode_utf8 flag)) (x ∷ xs)) 0)) (none flag)) ∙ e)

-- ---- one word more of the subcommand

-- what the word comes to, what its fault is and where the walk stands after it, by whether it is `--` and by what it is as a long flag
abbrev met_by : Waiting → Text → Held → Bool → Option (Text × Option Text) → Held × Step
met_by waiting word h is_dashes long = cond is_dashes (h, trailing 1) (long_or_other rules waiting word long h)

abbrev pub fault_by : Waiting → Text → Held → Bool → Option (Text × Option Text) → Kinds
fault_by waiting word h is_dashes long =
    or_else (cond is_dashes [] (flag_word_fault rules false long word h)) (step_fault leaf 1 (met_by waiting word h is_dashes long).0 (met_by waiting word h is_dashes long).1)

abbrev pub walk_by : List Row → Option (Text × List Text) → Waiting → Text → Bool → Option (Text × Option Text) → Walk
walk_by rows pending waiting word is_dashes long =
    after_step rules word (at rows pending waiting) (met_by waiting word (held rows pending) is_dashes long).0 (met_by waiting word (held rows pending) is_dashes long).1

-- the word names the option
record NamesOrder (word : Text) : Type 0 where
  pub attached : Option Text
  pub is : long_of word ≡ Some (codes "order", attached)

-- a long flag that is not refused names the option
named : (waiting : Waiting) (word : Text) (h : Held) (p : Text × Option Text) → long_of word ≡ Some p → fault_by waiting word h false (Some p) ≡ [] → NamesOrder word
named waiting word h p e fault = by_name (bytes_eq (codes "order") p.0) refl
  where
    by_name : (b : Bool) → bytes_eq (codes "order") p.0 ≡ b → NamesOrder word
    by_name true same = record { attached = p.1; is = e ∙ ap (λ (name : Text). Some (name, p.1)) (sym ((bytes_eq-Decides (codes "order") p.0).0 same)) }
    by_name false other =
        let none : arg_by_long rules p.0 ≡ None = ap (λ (b : Bool). cond (b || false) (Some order_rule) None) other in
        some_kind (ap (λ a. long_fault rules false a p.1 h) (sym none) ∙ (neither _ _ fault).0)

-- a word that is no long flag and is not refused goes where a plain word goes
plain_turn : (waiting : Waiting) (word : Text) (rows : List Row) (pending : Option (Text × List Text)) → fault_by waiting word (held rows pending) false None ≡ []
    → (short_or_plain rules waiting word (short_of word) (held rows pending) ≡ plain_word rules waiting word (held rows pending))
    × (step_fault leaf 1 (plain_word rules waiting word (held rows pending)).0 (plain_word rules waiting word (held rows pending)).1 ≡ [])
plain_turn waiting word rows pending fault =
    let parts = neither _ _ fault in
    let plain = flagless rules (λ x. refl) waiting word rows pending (short_of word) parts.0 in
    (plain, subst (λ (p : Held × Step). step_fault leaf 1 p.0 p.1 ≡ []) plain parts.1)

-- where nothing waits a word that is not refused names the option
idle_turn : (rows : List Row) (pending : Option (Text × List Text)) (word : Text) → bytes_eq word dashes ≡ false → turn_fault leaf [] (at rows pending idle) word ≡ [] → NamesOrder word
idle_turn rows pending word none fault = by_long (long_of word) refl
  where
    by_long : (long : Option (Text × Option Text)) → long_of word ≡ long → NamesOrder word
    by_long None e = some_kind (plain_turn idle word rows pending (sym (ap₂ (fault_by idle word (held rows pending)) none e) ∙ fault)).1
    by_long (Some p) e = named idle word (held rows pending) p e (sym (ap₂ (fault_by idle word (held rows pending)) none e) ∙ fault)

-- where the option waits for its value
abbrev pub empty : Option (Text × List Text)
empty = Some (codes "order", [])

abbrev asks : Text → Option (Text × List Text)
asks word = Some (codes "order", word ∷ [])

abbrev pub waits_for_order : Waiting
waits_for_order = option (codes "order")

-- there a word that is not refused is the value
waiting_turn : (rows : List Row) (word : Text) → bytes_eq word dashes ≡ false → turn_fault leaf [] (at rows empty waits_for_order) word ≡ []
    → walked rules [] (at rows empty waits_for_order) word ≡ at rows (asks word) idle
unfolding walked
waiting_turn rows word none fault = by_long (long_of word) refl
  where
    by_long : (long : Option (Text × Option Text)) → long_of word ≡ long → walked rules [] (at rows empty waits_for_order) word ≡ at rows (asks word) idle
    by_long None e =
        let plain = (plain_turn waits_for_order word rows empty (sym (ap₂ (fault_by waits_for_order word (held rows empty)) none e) ∙ fault)).0 in
        ap₂ (walk_by rows empty waits_for_order word) none e ∙ ap (λ (p : Held × Step). after_step rules word (at rows empty waits_for_order) p.0 p.1) plain
    by_long (Some p) e = by_value (named waits_for_order word (held rows empty) p e (sym (ap₂ (fault_by waits_for_order word (held rows empty)) none e) ∙ fault))
      where
        refused : (v : Option Text) → long_fault rules false (Some order_rule) v (held rows empty) ≡ [] → walked rules [] (at rows empty waits_for_order) word ≡ at rows (asks word) idle
        refused None e = some_kind e
        refused (Some v) e = some_kind e

        by_value : NamesOrder word → walked rules [] (at rows empty waits_for_order) word ≡ at rows (asks word) idle
        by_value n = refused n.attached (neither _ _ (sym (ap₂ (fault_by waits_for_order word (held rows empty)) none n.is) ∙ fault)).0

-- ---- the words behind `replay`

-- the fault of the end, of the words that are left and of that end, and the value of the option there
abbrev pub end_fault : Held → Kinds
end_fault h = or_else (settle_fault rules false h) (or_else (defaults_fault (settled rules h).rows rules) (check_fault leaf (finished rules h) false))

abbrev end_of : Walk → List Text → Held
end_of w words = (fold (walked rules []) w words).held

abbrev pub rest_fault : Walk → List Text → Kinds
rest_fault w words = or_else (walk_fault leaf [] w words) (end_fault (end_of w words))

abbrev pub order_at_end : Walk → List Text → Option Text
order_at_end w words = first_of (codes "order") (finished rules (end_of w words))

-- no word is `--`
abbrev pub lack_dashes : List Text → Type 0
lack_dashes words = list_any (λ word. bytes_eq word dashes) words ≡ false

neither_is : (a b : Bool) → (a || b) ≡ false → (a ≡ false) × (b ≡ false)
neither_is false b e = (refl, e)
neither_is true b e =
    let bad : true ≡ false = e in
    absurd (cc)

pub first_lacks : (word : Text) (words : List Text) → lack_dashes (word ∷ words) → (bytes_eq word dashes ≡ false) × lack_dashes words
first_lacks word words e = neither_is _ _ e

-- words without a fault have none at the first, and none at the rest
goes_on : (w : Walk) (word : Text) (words : List Text) → rest_fault w (word ∷ words) ≡ [] → (turn_fault leaf [] w word ≡ []) × (rest_fault (walked rules [] w word) words ≡ [])
unfolding walk_fault
goes_on w word words e =
    let parts = neither _ _ e in
    let turns = neither _ _ parts.0 in
    (turns.0, ap₂ or_else turns.1 parts.1)

-- one use of the option
abbrev row : Text → Row
row lanes = record { id = codes "order"; values = lanes ∷ []; count = None; source = Some CommandLine; reading = AsWritten }

abbrev once : Text → List Row
once lanes = row lanes ∷ []

-- what a word that names the option makes of a walk on which nothing waits
abbrev named_fault : List Row → Option (Text × List Text) → Option Text → Kinds
named_fault rows pending attached = long_fault rules false (Some order_rule) attached (held rows pending)

named_walk : (rows : List Row) (pending : Option (Text × List Text)) (word : Text) → bytes_eq word dashes ≡ false → turn_fault leaf [] (at rows pending idle) word ≡ []
    → (n : NamesOrder word) × (named_fault rows pending n.attached ≡ []) × (walked rules [] (at rows pending idle) word ≡ walk_by rows pending idle word false (Some (codes "order", n.attached)))
unfolding walked
named_walk rows pending word none fault =
    let n = idle_turn rows pending word none fault in
    (n, (neither _ _ (sym (ap₂ (fault_by idle word (held rows pending)) none n.is) ∙ fault)).0, ap₂ (walk_by rows pending idle word) none n.is)

-- after a second use nothing passes
used_twice : (first second : Text) (words : List Text) → lack_dashes words → rest_fault (at (once first) (asks second) idle) words ≡ [] → ⊥
unfolding clap_on_literals
used_twice first second [] lack fault = some_kind fault
used_twice first second (word ∷ words) lack fault =
    let here = first_lacks word words lack in
    let on = goes_on (at (once first) (asks second) idle) word words fault in
    let n = named_walk (once first) (asks second) word here.0 on.0 in
    refused n.0.attached n.1
  where
    refused : (v : Option Text) → named_fault (once first) (asks second) v ≡ [] → ⊥
    refused None e = some_kind e
    refused (Some v) e = some_kind e

-- nor after the option was named again
named_twice : (first : Text) (words : List Text) → lack_dashes words → rest_fault (at (once first) empty waits_for_order) words ≡ [] → ⊥
unfolding clap_on_literals
named_twice first [] lack fault = some_kind fault
named_twice first (word ∷ words) lack fault =
    let here = first_lacks word words lack in
    let on = goes_on (at (once first) empty waits_for_order) word words fault in
    used_twice first word words here.1 (subst (λ (w : Walk). rest_fault w words ≡ []) (waiting_turn (once first) word here.0 on.0) on.1)

-- after one use nothing comes, where a second one with its value attached is refused and one without leaves what it leaves
nothing_more : (rows : List Row) (pending : Option (Text × List Text)) (first : Text) → ((second : Text) → named_fault rows pending (Some second) ≡ [] → ⊥)
    → ((word : Text) → walk_by rows pending idle word false (Some (codes "order", None)) ≡ at (once first) empty waits_for_order)
    → (words : List Text) → lack_dashes words → rest_fault (at rows pending idle) words ≡ [] → words ≡ []
nothing_more rows pending first refused left [] lack fault = refl
nothing_more rows pending first refused left (word ∷ words) lack fault =
    let here = first_lacks word words lack in
    let on = goes_on (at rows pending idle) word words fault in
    let n = named_walk rows pending word here.0 on.0 in
    absurd (by_attached n.0.attached n.1 n.2 here.1 on.1)
  where
    by_attached : (v : Option Text) → named_fault rows pending v ≡ [] → walked rules [] (at rows pending idle) word ≡ walk_by rows pending idle word false (Some (codes "order", v))
        → lack_dashes words → rest_fault (walked rules [] (at rows pending idle) word) words ≡ [] → ⊥
    by_attached None e is lack fault = named_twice first words lack (subst (λ (w : Walk). rest_fault w words ≡ []) (is ∙ left word) fault)
    by_attached (Some second) e is lack fault = refused second e

-- after a use with its value attached, and after one with its value in a word of its own
used_once : (first : Text) (words : List Text) → lack_dashes words → rest_fault (at (once first) None idle) words ≡ [] → words ≡ []
used_once first = nothing_more (once first) None first (λ second e. some_kind e) (λ word. refl)

asked_once : (first : Text) (words : List Text) → lack_dashes words → rest_fault (at [] (asks first) idle) words ≡ [] → words ≡ []
asked_once first = nothing_more [] (asks first) first (λ second e. some_kind e) (λ word. refl)

-- ---- as a whole

-- words without a fault behind `replay` are the order that the option's value asks for
pub rest_read : (words : List Text) → lack_dashes words → rest_fault (at [] None idle) words ≡ [] → order_in (codes "replay" ∷ words) ≡ asked (order_at_end (at [] None idle) words)
unfolding clap_on_literals
rest_read [] lack fault = refl
rest_read (word ∷ words) lack fault =
    let here = first_lacks word words lack in
    let on = goes_on (at [] None idle) word words fault in
    let n = named_walk [] None word here.0 on.0 in
    by_attached n.0.attached n.0.is n.2 here.1 on.1
  where
    after_name : (others : List Text) → word ≡ codes "--order" → lack_dashes others → rest_fault (at [] empty waits_for_order) others ≡ []
        → order_in (codes "replay" ∷ word ∷ others) ≡ asked (order_at_end (at [] empty waits_for_order) others)
    after_name [] is lack fault = some_kind fault
    after_name (lanes ∷ others) is lack fault =
        let here = first_lacks lanes others lack in
        let on = goes_on (at [] empty waits_for_order) lanes others fault in
        let next = waiting_turn [] lanes here.0 on.0 in
        let none = asked_once lanes others here.1 (subst (λ (w : Walk). rest_fault w others ≡ []) next on.1) in
        ap₂ (λ (name : Text) (more : List Text). order_in (codes "replay" ∷ name ∷ lanes ∷ more)) is none
        ∙ sym (ap₂ (λ (w : Walk) (more : List Text). asked (order_at_end w more)) next none)

    by_attached : (v : Option Text) → long_of word ≡ Some (codes "order", v) → walked rules [] (at [] None idle) word ≡ walk_by [] None idle word false (Some (codes "order", v))
        → lack_dashes words → rest_fault (walked rules [] (at [] None idle) word) words ≡ []
        → order_in (codes "replay" ∷ word ∷ words) ≡ asked (order_at_end (walked rules [] (at [] None idle) word) words)
    by_attached None e is lack fault =
        after_name words (long_word_of word (codes "order") None e) lack (subst (λ (w : Walk). rest_fault w words ≡ []) is fault)
        ∙ sym (ap (λ (w : Walk). asked (order_at_end w words)) is)
    by_attached (Some lanes) e is lack fault =
        let none = used_once lanes words lack (subst (λ (w : Walk). rest_fault w words ≡ []) is fault) in
        ap₂ (λ (name : Text) (more : List Text). order_in (codes "replay" ∷ name ∷ more)) (long_word_of word (codes "order") (Some lanes) e) none
        ∙ sym (ap₂ (λ (w : Walk) (more : List Text). asked (order_at_end w more)) is none)
