-- The message of a key flow under way still fits after a loss at the side that asked, and the one that is posted again does.
use Rattle.std.proofs.Common.{Bool, List, ap, eq-eqb, eqb-true, false, if◌then◌else◌, refl, sym, true, true≢false, ℕ, ◌==◌, ◌||◌, ◌∙◌, ◌≡◌}
use Rattle.pipe_model.specs.Flows.{lost}
use Rattle.history_laws.specs.Words.{ConfirmRkey, DeleteRkey, Flow, KeyToken, LlcMessage, is_asked, is_deleting, resends_key}
use Rattle.history_laws.proofs.Basics.{and-both, and-true}
use Rattle.link_laws.proofs.Sound.{true-not-false}
use Rattle.link_laws.specs.KeyFlows.{key_fits}

module _ (k carrier : ℕ) (f : Flow) where
  carries : (s : ℕ) → (s == k) ≡ false → (f.on == s) ≡ true → ((if f.on == k then carrier else f.on) == s) ≡ true
  carries s ne e = by (f.on == k) refl
    where
      by : (b : Bool) → (f.on == k) ≡ b → ((if b then carrier else f.on) == s) ≡ true
      by true g = absurd (true-not-false (s == k) (eq-eqb s k (sym (eqb-true f.on s e) ∙ eqb-true f.on k g)) ne)
      by false g = e

  pub key-lost : (s : ℕ) (m : LlcMessage) → (s == k) ≡ false → key_fits s m f ≡ true → key_fits s m (lost k carrier f) ≡ true
  key-lost s (ConfirmRkey reply retry negative others tokens) ne e = let h = and-both (is_asked f.key) (f.on == s) e in and-true (is_asked f.key) _ h.0 (carries s ne h.1)
  key-lost s (DeleteRkey reply negative count mask keys) ne e = let h = and-both (is_deleting f.key) (f.on == s) e in and-true (is_deleting f.key) _ h.0 (carries s ne h.1)
  key-lost s m ne e = absurd (true≢false (sym e))

  moved : (f.on == k) ≡ true → ((if f.on == k then carrier else f.on) == carrier) ≡ true
  moved e = ap (λ b. (if b then carrier else f.on) == carrier) e ∙ eq-eqb carrier carrier refl

  pub key-again : (reply retry negative : Bool) (others : ℕ) (tokens : List KeyToken) → resends_key k f ≡ true → is_asked f.key ≡ true → key_fits carrier (ConfirmRkey reply retry negative others tokens) (lost k carrier f) ≡ true
  key-again reply retry negative others tokens r a = let h = and-both (is_asked f.key || is_deleting f.key) (f.on == k) r in and-true (is_asked f.key) _ a (moved h.1)

  pub delete-again : (reply negative : Bool) (count mask : ℕ) (keys : List ℕ) → resends_key k f ≡ true → is_deleting f.key ≡ true → key_fits carrier (DeleteRkey reply negative count mask keys) (lost k carrier f) ≡ true
  delete-again reply negative count mask keys r a = let h = and-both (is_asked f.key || is_deleting f.key) (f.on == k) r in and-true (is_deleting f.key) _ a (moved h.1)
