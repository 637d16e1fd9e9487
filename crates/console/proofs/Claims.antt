-- A clearance that was just handed out is the slot's latest.
use Rattle.std.proofs.Common.{◌≡◌, ℕ, ◌+◌, Bool, true, false, cond, Some, None, Option, refl}
use Rattle.std.proofs.lemmas.Bool.{eq-eqb}
use Rattle.accounts.specs.Account.{Account, Filled, with_slot, with_claim, one_made}
use Rattle.accounts.specs.Calls.{claim, release, withdraw, cleared, refused, clears, Does, refuses, claims}
use Rattle.accounts.proofs.Determined.{never}

clears_latest : (a : Account) (s : ℕ) (x : Filled) → clears (with_slot (one_made a) s (with_claim x (a.made + 1))) a.number s (a.made + 1) ≡ true
clears_latest a s x = rw (eq-eqb a.number a.number refl, eq-eqb s s refl, eq-eqb (a.made + 1) (a.made + 1) refl)

cleared_clears : {a : Account} {s h i k : ℕ} {b : Account} → Does a (claim s) (cleared h i k) b → clears b h i k ≡ true
cleared_clears {a} {s = s} (claims {x = x} e q) = clears_latest a s x

cleared_unrefused : (b : Bool) (n : ℕ) → b ≡ true → ◌≡◌ {A = Option ℕ} (cond b None (Some 29)) (Some n) → ⊥
cleared_unrefused true n t e = never (cc)
cleared_unrefused false n t e = never (cc)

-- so its release is not refused,
pub release_accepted : {a b c : Account} {s h i k n : ℕ} → Does a (claim s) (cleared h i k) b → Does b (release h i k) (refused n) c → ⊥
release_accepted {b = b} {h = h} {i = i} {k = k} {n = n} d (refuses e) = cleared_unrefused (clears b h i k) n (cleared_clears d) e

-- nor is its withdrawal
pub withdrawal_accepted : {a b c : Account} {s h i k n : ℕ} → Does a (claim s) (cleared h i k) b → Does b (withdraw h i k) (refused n) c → ⊥
withdrawal_accepted {b = b} {h = h} {i = i} {k = k} {n = n} d (refuses e) = cleared_unrefused (clears b h i k) n (cleared_clears d) e
