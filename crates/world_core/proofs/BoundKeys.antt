-- A side has no key, or its one key.
use Rattle.std.proofs.Common.{◌≡◌, inl, inr, refl, ◌∙◌}
use Rattle.std.specs.Prelude.{◌⊎◌, ℕ, List}
use Rattle.smc_num.specs.declared.Side.{Side}
use Rattle.smc_num.specs.declared.Side.TheVariants.{A, B}
use Rattle.pipe_model.specs.declared.setup.Setup.{Setup}
use Rattle.pipe_model.specs.declared.entry.Entry.{Entry}
use Rattle.pipe_model.specs.Keys.{no_keys, keys_of}
use Rattle.world_core.specs.Played.{IsOneLink, IsPlayed}
use Rattle.world_core.specs.OneLink.{Stage, NoLink, Begun, Made, Asking, LiveAtA, LiveAtBoth, keys_at, the_keys, fabric_at}
use Rattle.world_core.proofs.PlayedWorlds.{played}
use Rattle.pipe_model.specs.Fabric.{peer}

-- a side has no group and no key, or the one key
pub keys-are : (x : Side) (stage : Stage) → (((peer x (fabric_at stage)).group ≡ 0) × (keys_at x stage ≡ no_keys)) ⊎ (keys_at x stage ≡ the_keys x)
keys-are A NoLink = inl (refl, refl)
keys-are A (Begun s) = inl (refl, refl)
keys-are A (Made s) = inr refl
keys-are A (Asking s qp) = inr refl
keys-are A (LiveAtA s qp) = inr refl
keys-are A (LiveAtBoth s) = inr refl
keys-are B NoLink = inl (refl, refl)
keys-are B (Begun s) = inr refl
keys-are B (Made s) = inr refl
keys-are B (Asking s qp) = inr refl
keys-are B (LiveAtA s qp) = inr refl
keys-are B (LiveAtBoth s) = inr refl

module _ (setup : Setup) (one : IsOneLink setup) (payload : List ℕ) where
  now-at : (past : List Entry) (x : Side) (stage : Stage) → keys_of x past ≡ keys_at x stage → (((peer x (fabric_at stage)).group ≡ 0) × (keys_at x stage ≡ no_keys)) ⊎ (keys_at x stage ≡ the_keys x) → (keys_of x past ≡ no_keys) ⊎ (keys_of x past ≡ the_keys x)
  now-at past x stage e (inl f) = inl (e ∙ f.1)
  now-at past x stage e (inr f) = inr (e ∙ f)

  pub now-bound : (past : List Entry) (n : ℕ) → IsPlayed setup payload past n → (x : Side) → (keys_of x past ≡ no_keys) ⊎ (keys_of x past ≡ the_keys x)
  now-bound past n p x =
      let w = played setup one payload past n p in
      let at = w.world in
      let link = at.link in
      now-at past x w.stage (link.keys x) (keys-are x w.stage)
