use Rattle.std.proofs.Common.{◌≡◌, ◌==◌, ℕ, List, false, Some, slice_index, sym, ap, ◌∙◌, arith, rules}
use Rattle.std.proofs.lemmas.Bool.Decides.{nat_tests}
use Rattle.std.proofs.lemmas.Result.{IfOk-weaker}
use Rattle.fast_float.specs.Text.{scan}
use Rattle.serde_json.specs.Data.{unsigned}
use Rattle.serde_json.specs.Read.{number_from, number_of}
use Rattle.json_tokens.proofs.parts.whole_number.Goals as goal

-- a text that begins with another byte than a minus sign
without_sign : (s digits : List ℕ) → digits ≡ s → (slice_index digits 0 ≡ 45 → ⊥) → number_of s ≡ number_from false (scan s)
unfolding number_of
without_sign s digits same other =
    let plain : (slice_index s 0 == 45) ≡ false = grind (arith, nat_tests) in
    rw plain

pub returns : goal.returns
returns c =
    let digits = c.as_bytes-digits.result.now in
    let same : digits ≡ c.args.text.now = search rules in
    let plain = without_sign c.args.text.now digits same (λ e. absurd (c.if-digits-eq45.false e)) in
    let scanned : c.scan.result ≡ scan c.args.text.now = c.scan.ensures.parts ∙ ap scan same in
    IfOk-weaker c.number_of_numeral.result (λ n. number_from false c.scan.result ≡ Some (unsigned n)) (λ n. number_of c.args.text.now ≡ Some (unsigned n))
    (λ n is. plain ∙ ap (number_from false) (sym scanned) ∙ is) c.number_of_numeral.ensures
