-- A list that is given back by its number.
use Rattle.std.proofs.Common.{◌≡◌, ℕ, Bool, true, false, cond, List, [], ◌∷◌, Option, Some, None, All, refl, ap, sym, ◌∙◌, arith}
use Rattle.std.specs.Prelude.{filter}
use Rattle.std.proofs.lemmas.Bool.Decides.{nat_tests}
use Rattle.std.proofs.lemmas.List.Elements.{All-head, All-tail}
use Rattle.ndis_base.specs.declared.ListStatus.TheVariants.{Success}
use Rattle.ndis_base.specs.declared.ProtocolKind.{ProtocolKind}
use Rattle.buffer_pools.specs.Views.{ListView}
use Rattle.driver_views.specs.declared.Served.{Served}
use Rattle.driver_tray.specs.Tray.{TrayView, passed_back}
use Rattle.driver_log.specs.Log.{LogView}
use Rattle.kept_lists.specs.Kept.{KeptView, IsOther, has_number, Takes}
use Rattle.kept_lists.specs.Kept.Takes.{lacks, takes}
use Rattle.driver_calls.specs.Protocols.{GivesBack}
use Rattle.driver_calls.specs.Protocols.GivesBack.{lacks_it, gives}
use Rattle.binding_protocols.specs.Protocols.{protocol_of}

none_of : (n : ℕ) (kept : List ListView) → All (IsOther n) kept → filter (has_number n) kept ≡ []
none_of n [] others = refl
none_of n (x ∷ kept) others =
    ap (λ b. cond b (x ∷ filter (has_number n) kept) (filter (has_number n) kept)) (All-head (IsOther n) x kept others) ∙ none_of n kept (All-tail (IsOther n) x kept others)

module _ (kind : ProtocolKind) (is_open : Bool) (served : Served) (log : LogView) where
  pub gives_lacking : (old after : KeptView) (n : ℕ) (kept : List ListView) (t t' : TrayView) (taken : Option ListView) → taken ≡ None → Takes old n taken after → old.lists ≡ kept → t' ≡ t
      → GivesBack (protocol_of kind is_open old.lists served log) n kept t false (protocol_of kind is_open after.lists served log) t'
  gives_lacking old after n kept t t' taken is (lacks others none same) all still =
      lacks_it (ap (filter (has_number n)) (sym all) ∙ none_of n old.lists others) refl (ap (λ (k : KeptView). protocol_of kind is_open k.lists served log) same) still
  gives_lacking old after n kept t t' taken is (takes front list back others parts here some left room) all still = absurd (cc (is, some))

  pub gives_one : (old after : KeptView) (n : ℕ) (kept : List ListView) (t t' : TrayView) (taken : Option ListView) (l : ListView) → taken ≡ Some l → Takes old n taken after → old.lists ≡ kept → t' ≡ passed_back t l Success
      → GivesBack (protocol_of kind is_open old.lists served log) n kept t true (protocol_of kind is_open after.lists served log) t'
  gives_one old after n kept t t' taken l is (lacks others none same) all back = absurd (cc (is, none))
  gives_one old after n kept t t' taken l is (takes front list after_it others parts here some left room) all back =
      let same : list ≡ l = cc (some, is) in
      let number : list.label.number.0 ≡ n = grind (arith, nat_tests, here) in
      gives front list after_it (sym all ∙ parts) number refl (ap (λ (ls : List ListView). protocol_of kind is_open ls served log) left) (back ∙ ap (λ (k : ListView). passed_back t k Success) (sym same))
