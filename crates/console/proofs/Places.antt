-- The places that refusals tell are small.
use Rattle.std.proofs.Common.{◌≡◌, ℕ, zero, suc, ◌+◌, ◌-◌, ◌<◌, ◌≤◌, Bool, true, false, cond, leb, List, [], ◌∷◌, length, Some, None, Option, subst, ⊎_elim, arith}
use Rattle.std.proofs.lemmas.Bool.{cases_lt, lt-ltb, le-ltb}
use Rattle.terms.specs.Faults.{of_term}
use Rattle.terms.specs.Scan.{Stand, before, behind, Move, acts, opens, joins, closes, misfits, move, at_end, by_move, scan, first_refusal}
use Rattle.terms.specs.declared.fault.TermFault.{TermFault}

-- a place, where there is one, is at most n
abbrev pub Near : ℕ → Option ℕ → Type 0
Near n None = Unit {0}
Near n (Some p) = p ≤ n

-- so is the place of a fault, where there is one
abbrev Within : ℕ → Option TermFault → Type 0
Within n None = Unit {0}
Within n (Some f) = Near n (of_term f).place

within_cond : (n : ℕ) (b : Bool) (x y : Option TermFault) → Within n x → Within n y → Within n (cond b x y)
within_cond n true x y h k = h
within_cond n false x y h k = k

within_move : (n : ℕ) (m : Move) (a o j c f : Option TermFault) → Within n a → Within n o → Within n j → Within n c → Within n f → Within n (by_move m a o j c f)
within_move n acts a o j c f ha ho hj hc hf = ha
within_move n opens a o j c f ha ho hj hc hf = ho
within_move n joins a o j c f ha ho hj hc hf = hj
within_move n closes a o j c f ha ho hj hc hf = hc
within_move n misfits a o j c f ha ho hj hc hf = hf

within_end : (n : ℕ) (stand : Stand) (opened at : ℕ) → at ≤ n → Within n (at_end stand opened at)
within_end n before opened at l = l
within_end n behind zero at l = tt
within_end n behind (suc opened) at l = l

scanned : (n : ℕ) (stand : Stand) (opened actions at : ℕ) (cs : List ℕ) → at + length cs ≤ n → Within n (scan stand opened actions at cs)
scanned n stand opened actions at [] l = within_end n stand opened at (omega arith)
scanned n stand opened actions at (c ∷ cs) l =
    within_move n (move stand opened c) _ _ _ _ _
    (within_cond n (leb 63 actions) _ _ (omega arith) (scanned n behind opened (actions + 1) (at + 1) cs (omega arith)))
    (within_cond n (leb 32 opened) _ _ (omega arith) (scanned n before (opened + 1) actions (at + 1) cs (omega arith)))
    (scanned n before opened actions (at + 1) cs (omega arith))
    (scanned n behind (opened - 1) actions (at + 1) cs (omega arith))
    (omega arith)

-- a text's first refusal stands within 512 bytes
pub refusal_near : (text : List ℕ) (f : TermFault) → first_refusal text ≡ Some f → Near 512 (of_term f).place
refusal_near text f e = subst (Within 512) e (⊎_elim long short (cases_lt 512 (length text)))
  where
    long : 512 < length text → Within 512 (first_refusal text)
    long l = rw (lt-ltb 512 (length text) l) (omega arith)

    short : length text ≤ 512 → Within 512 (first_refusal text)
    short l = rw (le-ltb 512 (length text) l) (scanned 512 before 0 0 0 text (omega arith))
