-- What clap makes of all the words, and what a form is.
use Rattle.std.specs.Prelude.{drop, ◌||◌, option_and_then, unwrap_or}
use Rattle.std.specs.List.{list_any}
use Rattle.std.specs.Option.{option_map, option_map_or}
use Rattle.std.specs.Str.{bytes_eq}
use Rattle.std.proofs.Common.{ℕ, ◌≡◌, Bool, true, false, cond, List, [], ◌∷◌, ◌++◌, Option, Some, None, refl, sym, ap, ap₂, ◌∙◌, codes, is_some, ◌⊎◌, inl, inr, length, subst, ◌-◌, ◌&&◌, nat_le, ◌==◌, take, arith, map}
use Rattle.std.proofs.lemmas.Bool.Decides.{nat_tests}
use Rattle.std.proofs.lemmas.List.{take-append-drop}
use Rattle.std.proofs.lemmas.Slice.Eq.{bytes_eq-Decides}
use Rattle.clap.specs.Lexer.{short_of_rest, long_of_rest, strip_byte, long_of, short_of}
use Rattle.clap.specs.Matches.{first_value, found_of}
use Rattle.clap.specs.declared.error.kind.ErrorKind.TheVariants.{OutOfMemory}
use Rattle.clap.specs.declared.parser.matches.ArgMatches.{ArgMatches}
use Rattle.clap.specs.Walk.{rows_of, subcommand_or_other, nothing_held, finished, first_of, settled, Row, Held, Walk, Step, Names, Text, idle, trailing, after_step, long_or_other, short_or_plain, walk_from}
use Rattle.clap.specs.Simple.{HasMatchesOf, subcommand_rows_of, entered, Shape, built, subcommand_of, names_of}
use Rattle.clap.specs.Kinds.{IsAmong, Kinds, or_else}
use Rattle.clap.specs.Faults.{other_fault, entered_fault, check_fault, defaults_fault, settle_fault, bundle_fault, fault_of, flag_word_fault, step_fault, turn_fault}
use Rattle.clap.specs.declared.error.kind.ErrorKind.{ErrorKind}
use Rattle.clap.proofs.WalkLemmas.{both, walk_stopped, list_any-map, first_value-rows}
use Rattle.clap.proofs.FaultLemmas.{stopped_fault}
use Rattle.clap.proofs.OnLiterals.{clap_on_literals}
use Rattle.command_words.specs.Command.{asked, command, order_asked}
use Rattle.command_words.specs.Words.{order_in, named_in, lanes_in, is_lane, joined_lanes}
use Rattle.command_words.proofs.ReplayWords.{some_kind, neither, dashes, leaf, rules, held, at, flagless, fault_by, walk_by, empty, waits_for_order, end_fault, lack_dashes, first_lacks, rest_read}

-- the command as it is built, and its fault where a walk has ended
abbrev top : Shape
top = (built command).top

abbrev names : Names
names = names_of (built command)

abbrev top_fault : Walk → Kinds → Kinds
top_fault end kinds =
    or_else kinds (or_else (entered_fault (built command) end.stopped) (or_else (settle_fault top.rules top.args_override_self end.held) (or_else (defaults_fault (settled top.rules end.held).rows top.rules)
    (check_fault top (finished top.rules end.held) (is_some (entered (built command) end.stopped))))))

-- what clap reads behind `replay` is what the words ask for
replay_read : (rest : List Text) → lack_dashes rest → fault_of command (codes "replay" ∷ rest) ≡ [] → order_in (codes "replay" ∷ rest) ≡ order_asked (subcommand_of command (codes "replay" ∷ rest))
unfolding clap_on_literals
replay_read rest lack fault =
    let name = codes "replay" in
    let end = walk_stopped top.rules names (walk_from nothing_held) name [] rest in
    let passes : top_fault (record (walk_from nothing_held) { stopped = Some (name, rest) }) [] ≡ [] = ap₂ top_fault end (sym (stopped_fault top names (walk_from nothing_held) (name, []) rest)) ∙ fault in
    rest_read rest lack (neither _ _ passes).0 ∙ ap (λ (w : Walk). order_asked (entered (built command) w.stopped)) end

-- the fault of a first word, by whether it is `replay`, and else by what it looks like
abbrev named_by : Bool → Option Text
named_by is_replay = option_map (λ (s : Text × List Text). s.0) (cond (is_replay || false) (Some (codes "replay", [])) None)

abbrev first_fault : Text → Option Text → Kinds
first_fault word name = or_else (other_fault top name word nothing_held) (step_fault top 1 (subcommand_or_other [] name idle 1 word nothing_held).0 (subcommand_or_other [] name idle 1 word nothing_held).1)

abbrev other_first : Text → Bool → Option (Text × Option Text) → Kinds
other_first word is_dashes long =
    or_else (cond is_dashes [] (flag_word_fault [] false long word nothing_held))
    (step_fault top 1 (cond is_dashes (nothing_held, trailing 1) (long_or_other [] idle word long nothing_held)).0 (cond is_dashes (nothing_held, trailing 1) (long_or_other [] idle word long nothing_held)).1)

-- any other first word is refused
plain_first : (word : Text) → other_first word false None ≡ [] → ⊥
plain_first word fault =
    let parts = neither _ _ fault in
    let plain = flagless [] (λ x. refl) idle word [] None (short_of word) parts.0 in
    some_kind (subst (λ (p : Held × Step). step_fault top 1 p.0 p.1 ≡ []) plain parts.1)

long_first : (word : Text) (p : Text × Option Text) → other_first word false (Some p) ≡ [] → ⊥
long_first word p fault = some_kind fault

not_replay : (word : Text) → bytes_eq word dashes ≡ false → bytes_eq (codes "replay") word ≡ false → turn_fault top names (walk_from nothing_held) word ≡ [] → ⊥
not_replay word none other fault = by_long (long_of word) refl (sym (ap (λ (b : Bool). first_fault word (named_by b)) other) ∙ fault)
  where
    by_long : (long : Option (Text × Option Text)) → long_of word ≡ long → other_first word (bytes_eq word dashes) (long_of word) ≡ [] → ⊥
    by_long None e f = plain_first word (sym (ap₂ (other_first word) none e) ∙ f)
    by_long (Some p) e f = long_first word p (sym (ap₂ (other_first word) none e) ∙ f)

-- what clap reads in words that it takes is what they ask for
pub read_exactly : (words : List Text) → lack_dashes words → fault_of command words ≡ [] → order_in words ≡ order_asked (subcommand_of command words)
unfolding clap_on_literals
read_exactly [] lack fault = some_kind fault
read_exactly (word ∷ rest) lack fault = by_name (bytes_eq (codes "replay") word) refl
  where
    by_name : (b : Bool) → bytes_eq (codes "replay") word ≡ b → order_in (word ∷ rest) ≡ order_asked (subcommand_of command (word ∷ rest))
    by_name true same =
        subst (λ (w : Text). fault_of command (w ∷ rest) ≡ [] → order_in (w ∷ rest) ≡ order_asked (subcommand_of command (w ∷ rest)))
        ((bytes_eq-Decides (codes "replay") word).0 same) (replay_read rest (first_lacks word rest lack).1) fault
    by_name false other = absurd (not_replay word (first_lacks word rest lack).0 other (neither _ _ (neither _ _ fault).0).0)

-- a test that has to pass
tested : {X : Type 0} (b : Bool) (x : Option X) → is_some (cond b x None) ≡ true → (b ≡ true) × (is_some x ≡ true)
tested true x e = (refl, e)
tested false x e = absurd (cc)

-- lanes begin with a digit, and so with no hyphen
no_hyphen : (d : ℕ) → is_lane d ≡ true → (d == 45) ≡ false
no_hyphen d e = grind (arith, nat_tests, e)

starts_with_lane : (d : ℕ) (others : Text) → is_some (joined_lanes (d ∷ others)) ≡ true → is_lane d ≡ true
starts_with_lane d [] e = (tested (is_lane d) (Some ((d - 48) ∷ [])) e).0
starts_with_lane d (comma ∷ others) e = (both _ _ (tested (is_lane d && comma == 44) (option_map (λ (lanes : List ℕ). (d - 48) ∷ lanes) (joined_lanes others)) e).0).0

-- the three forms
alone : fault_of command (codes "replay" ∷ []) ≡ []
unfolding clap_on_literals
alone = refl

in_one_word : (lanes : Text) → fault_of command (codes "replay" ∷ (codes "--order=" ++ lanes) ∷ []) ≡ []
unfolding clap_on_literals
in_one_word lanes = refl

-- a value behind the option's name, by what it looks like
abbrev value_fault : Text → Bool → Option (Text × Option Text) → Kinds
value_fault lanes is_dashes long =
    or_else (or_else (or_else (fault_by waits_for_order lanes (held [] empty) is_dashes long) []) (end_fault (walk_by [] empty waits_for_order lanes is_dashes long).held)) []

abbrev plain_fault : Text → Option Text → Kinds
plain_fault lanes flags =
    let met = short_or_plain rules waits_for_order lanes flags (held [] empty) in
    or_else (or_else (or_else (or_else (option_map_or (λ f. bundle_fault rules false f (held [] empty)) flags []) (step_fault leaf 1 met.0 met.1)) [])
    (end_fault (after_step rules lanes (at [] empty waits_for_order) met.0 met.1).held)) []

in_two_words : (lanes : Text) → is_some (lanes_in lanes) ≡ true → fault_of command (codes "replay" ∷ codes "--order" ∷ lanes ∷ []) ≡ []
unfolding clap_on_literals
in_two_words [] form = absurd (cc)
in_two_words (d ∷ others) form =
    let digit : (d == 45) ≡ false = no_hyphen d (starts_with_lane d others (tested (nat_le (length (d ∷ others)) 32767) (joined_lanes (d ∷ others)) form).1) in
    let dash : bytes_eq (d ∷ others) dashes ≡ false = ap (λ (b : Bool). b && bytes_eq others (45 ∷ [])) digit in
    let long : long_of (d ∷ others) ≡ None = ap (λ (b : Bool). option_and_then long_of_rest (option_and_then (strip_byte 45) (cond b (Some others) None))) digit in
    let short : short_of (d ∷ others) ≡ None = ap (λ (b : Bool). option_and_then short_of_rest (cond b (Some others) None)) digit in
    let by_looks : fault_of command (codes "replay" ∷ codes "--order" ∷ (d ∷ others) ∷ []) ≡ value_fault (d ∷ others) false None = ap₂ (value_fault (d ∷ others)) dash long in
    by_looks ∙ ap (plain_fault (d ∷ others)) short

named_is : (word : Text) → is_some (named_in word) ≡ true → word ≡ codes "--order=" ++ drop 8 word
named_is word form =
    let name = (bytes_eq-Decides (take 8 word) (codes "--order=")).0 (tested (bytes_eq (take 8 word) (codes "--order=")) (lanes_in (drop 8 word)) form).0 in
    sym (take-append-drop 8 word) ∙ ap (λ (t : Text). t ++ drop 8 word) name

-- at a form nothing is refused
pub form_passes : (words : List Text) → is_some (order_in words) ≡ true → fault_of command words ≡ []
form_passes [] form = absurd (cc)
form_passes (word ∷ []) form =
    let is = (bytes_eq-Decides word (codes "replay")).0 (tested (bytes_eq word (codes "replay")) (Some []) form).0 in
    ap (λ (w : Text). fault_of command (w ∷ [])) is ∙ alone
form_passes (word ∷ order ∷ []) form =
    let parts = tested (bytes_eq word (codes "replay")) (named_in order) form in
    ap₂ (λ (w o : Text). fault_of command (w ∷ o ∷ [])) ((bytes_eq-Decides word (codes "replay")).0 parts.0) (named_is order parts.1) ∙ in_one_word (drop 8 order)
form_passes (word ∷ name ∷ lanes ∷ []) form =
    let parts = tested (bytes_eq word (codes "replay") && bytes_eq name (codes "--order")) (lanes_in lanes) form in
    let are = both _ _ parts.0 in
    ap₂ (λ (w n : Text). fault_of command (w ∷ n ∷ lanes ∷ [])) ((bytes_eq-Decides word (codes "replay")).0 are.0) ((bytes_eq-Decides name (codes "--order")).0 are.1)
    ∙ in_two_words lanes parts.1
form_passes (a ∷ b ∷ c ∷ d ∷ words) form = absurd (cc)

either : (a b : Bool) → (a || b) ≡ true → (a ≡ true) ⊎ (b ≡ true)
either true b e = inl refl
either false b e = inr e

either_none : (b : Bool) → ◌≡◌ {A = Option (List ℕ)} (cond b None None) None
either_none true = refl
either_none false = refl

are_dashes : (word : Text) → bytes_eq word dashes ≡ true → word ≡ dashes
are_dashes word e = (bytes_eq-Decides word dashes).0 e

-- no form has `--` in it
pub no_dashes : (words : List Text) → list_any (λ word. bytes_eq word dashes) words ≡ true → order_in words ≡ None
no_dashes [] some = absurd (cc)
no_dashes (word ∷ []) some = elim (either _ _ some) [
  | inl e ↦ ap (λ (w : Text). order_in (w ∷ [])) (are_dashes word e)
  | inr e ↦ absurd (cc)
]
no_dashes (word ∷ order ∷ []) some = elim (either _ _ some) [
  | inl e ↦ ap (λ (w : Text). order_in (w ∷ order ∷ [])) (are_dashes word e)
  | inr more ↦ elim (either _ _ more) [
    | inl e ↦ ap (λ (o : Text). order_in (word ∷ o ∷ [])) (are_dashes order e) ∙ either_none (bytes_eq word (codes "replay"))
    | inr e ↦ absurd (cc)
  ]
]
no_dashes (word ∷ name ∷ lanes ∷ []) some = elim (either _ _ some) [
  | inl e ↦ ap (λ (w : Text). order_in (w ∷ name ∷ lanes ∷ [])) (are_dashes word e)
  | inr more ↦ elim (either _ _ more) [
    | inl e ↦ ap (λ (n : Text). order_in (word ∷ n ∷ lanes ∷ [])) (are_dashes name e) ∙ other_name (bytes_eq word (codes "replay"))
    | inr last ↦ elim (either _ _ last) [
      | inl e ↦ ap (λ (l : Text). order_in (word ∷ name ∷ l ∷ [])) (are_dashes lanes e) ∙ either_none (bytes_eq word (codes "replay") && bytes_eq name (codes "--order"))
      | inr e ↦ absurd (cc)
    ]
  ]
]
  where
    other_name : (b : Bool) → cond (b && false) (lanes_in lanes) None ≡ None
    other_name true = refl
    other_name false = refl
no_dashes (a ∷ b ∷ c ∷ d ∷ words) some = refl

-- ---- as the functions say it

-- words with `--` are no form
pub dashes_mapped : {X : Type 0} (f : X → Text) (words : List X) → list_any (λ w. bytes_eq (f w) dashes) words ≡ true → None ≡ order_in (map f words)
dashes_mapped f words some = sym (no_dashes (map f words) (sym (list_any-map (λ w. bytes_eq w dashes) f words) ∙ some))

-- the matches of words that are taken
pub read_mapped : {X : Type 0} (f : X → Text) (words : List X) (m : ArgMatches) → list_any (λ w. bytes_eq (f w) dashes) words ≡ false → fault_of command (map f words) ≡ []
    → HasMatchesOf command (map f words) m → order_asked (subcommand_rows_of m) ≡ order_in (map f words)
read_mapped f words m lack fault has =
    ap order_asked (has refl).1
    ∙ sym (read_exactly (map f words) (sym (list_any-map (λ w. bytes_eq w dashes) f words) ∙ lack) fault)

-- words that are refused are no form
pub refused_words : (words : List Text) (k : ErrorKind) → (k ≡ OutOfMemory) ⊎ IsAmong k (fault_of command words) → (k ≡ OutOfMemory → ⊥) → None ≡ order_in words
refused_words words k has other = by_order (order_in words) refl
  where
    passed : is_some (order_in words) ≡ true → ⊥
    passed form = elim has [
      | inl e ↦ other e
      | inr among ↦ subst (IsAmong k) (form_passes words form) among
    ]

    by_order : (o : Option (List ℕ)) → order_in words ≡ o → None ≡ o
    by_order None e = refl
    by_order (Some lanes) e = absurd (passed (ap is_some e))

-- words that are no form ask for no order
pub no_form : (o : Option (List ℕ)) → is_some o ≡ false → None ≡ o
no_form None e = refl
no_form (Some lanes) e = absurd (cc)

-- the option's value, by the subcommand's matches
pub matched : (o : Option (Text × List Row)) (m : ArgMatches) (lanes : Option Text) → Some (rows_of (found_of m)) ≡ option_map (λ p. p.1) o → lanes ≡ first_value (found_of m) (codes "order")
    → asked lanes ≡ order_asked o
matched None m lanes rows is = absurd (cc)
matched (Some p) m lanes rows is =
    let same : rows_of (found_of m) ≡ p.1 = ap (λ (x : Option (List Row)). unwrap_or x p.1) rows in
    ap asked (is ∙ first_value-rows (found_of m) (codes "order") ∙ ap (first_of (codes "order")) same)
