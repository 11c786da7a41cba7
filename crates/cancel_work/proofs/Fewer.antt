-- A module that turns lists back keeps no more than before.
use Rattle.std.proofs.Common.{◌≡◌, ℕ, ◌+◌, ◌≤◌, not, List, length, filter, refl, ap, arith}
use Rattle.std.proofs.lemmas.List.Filters.{length-filter_both}
use Rattle.buffer_pools.specs.Views.{ListView}
use Rattle.driver_tray.specs.Tray.{TrayView}
use Rattle.driver_calls.specs.Filters.{is_cancelled, Cancels}

pub fewer : (kept : List ListView) (id : ℕ) (t : TrayView) (kept' : List ListView) (t' : TrayView) → Cancels kept id t kept' t' → length kept' ≤ length kept
fewer kept id t kept' t' c =
    let parts : length (filter (is_cancelled t.net id) kept) + length (filter (λ l. not (is_cancelled t.net id l)) kept) ≡ length kept = length-filter_both (is_cancelled t.net id) (λ l. not (is_cancelled t.net id l)) (λ l. refl) kept in
    let stayed : length kept' ≡ length (filter (λ l. not (is_cancelled t.net id l)) kept) = ap length c.kept_are in
    omega (arith, parts, stayed)
