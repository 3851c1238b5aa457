-- A subnet has two parts.
use Rattle.std.proofs.Common.{◌≡◌, ℕ, ◌<◌, ◌≤◌, List, [], ◌∷◌, length, map, Err, Bor, refl, arith}
use Rattle.scene_text.specs.declared.faults.LineKind.TheVariants as kinds
use Rattle.scene_text.specs.Words.{subnet_in}

pub of_fewer : (parts : List (Bor (List ℕ))) → length parts < 2 → subnet_in (map (λ p. p.now) parts) ≡ Err kinds.Subnet
of_fewer [] h = refl
of_fewer (a ∷ []) h = refl
of_fewer (a ∷ b ∷ parts) h = absurd (omega arith)

pub of_more : (parts : List (Bor (List ℕ))) → 3 ≤ length parts → subnet_in (map (λ p. p.now) parts) ≡ Err kinds.Subnet
of_more [] h = absurd (omega arith)
of_more (a ∷ []) h = absurd (omega arith)
of_more (a ∷ b ∷ []) h = absurd (omega arith)
of_more (a ∷ b ∷ c ∷ parts) h = refl
