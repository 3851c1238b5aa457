-- Why an end that has fallen back is reset: it aborted, or its peer did, once both have fallen back; over every list of entries.
use Rattle.std.proofs.Common.{Bool, List, [], false, if◌then◌else◌, inl, inr, refl, subst, sym, true, true≢false, ℕ, ◌&&◌, ◌==◌, ◌∷◌, ◌≡◌, ◌⊎◌}
use Rattle.std.specs.Prelude.{None, Option, Some, is_some}
use Rattle.pipe_model.specs.Causes.{HasAborted, IsAbort, IsShown}
use Rattle.pipe_model.specs.Closing.{abort_told, after_abort, struck}
use Rattle.pipe_model.specs.declared.closing.Phase.{Phase}
use Rattle.pipe_model.specs.Fallback.{fallen_call, fallen_phase, is_fallen, own_phase, peer_did}
use Rattle.pipe_model.specs.declared.reply.ResetCause.{ResetCause}
use Rattle.pipe_model.specs.declared.reply.ResetCause.TheVariants.{OwnAbort}
use Rattle.history_laws.specs.Words.{Abort, Close, Done, Entry, Event, Finish, PeerAbort, Reply, Setup, Side, after_close, after_finish, cause_of, other, same_side}
use Rattle.history_laws.proofs.Basics.{and-both}
use Rattle.wire_laws.proofs.Causes.Phases.{Has, abort-new, close-new, finish-new, is_open, struck-new}

module _ (x : Side) (s : ℕ) (c : ResetCause) where
  own-step : (v : Event) (r : Reply) (p : Phase) → Has c (fallen_call x s v r p) → Has c p ⊎ ((c ≡ OwnAbort) × IsAbort x s v r)
  own-step (Finish end) Done p e = by (same_side x end.side && (s == end.s)) e
    where
      by : (b : Bool) → Has c (if b then after_finish p else p) → Has c p ⊎ ((c ≡ OwnAbort) × ⊥)
      by true f = inl (finish-new c p f)
      by false f = inl f
  own-step (Close end) Done p e = by (same_side x end.side && (s == end.s)) e
    where
      by : (b : Bool) → Has c (if b then after_close p else p) → Has c p ⊎ ((c ≡ OwnAbort) × ⊥)
      by true f = inl (close-new c p f)
      by false f = inl f
  own-step (Abort end) Done p e = by (same_side x end.side && (s == end.s)) refl e
    where
      new : (same_side x end.side && (s == end.s)) ≡ true → Has c p ⊎ ((c ≡ OwnAbort) × (abort_told p ≡ Done)) → Has c p ⊎ ((c ≡ OwnAbort) × ((same_side x end.side && (s == end.s)) ≡ true))
      new q (inl f) = inl f
      new q (inr f) = inr (f.0, q)

      by : (b : Bool) → (same_side x end.side && (s == end.s)) ≡ b → Has c (if b then after_abort p else p) → Has c p ⊎ ((c ≡ OwnAbort) × ((same_side x end.side && (s == end.s)) ≡ true))
      by true q f = new q (abort-new c p f)
      by false q f = inl f
  own-step v r p e = inl e

-- an end's own calls bring no cause but its own abort
own-shown : (x : Side) (s : ℕ) (c : ResetCause) (past : List Entry) → Has c (own_phase x s past) → (c ≡ OwnAbort) × HasAborted x s past
own-shown x s c [] e = cc
own-shown x s c (e ∷ past) f = by (own-shown x s c past) (own-step x s c e.event e.reply (own_phase x s past) f)
  where
    by : (Has c (own_phase x s past) → (c ≡ OwnAbort) × HasAborted x s past) → Has c (own_phase x s past) ⊎ ((c ≡ OwnAbort) × IsAbort x s e.event e.reply) → (c ≡ OwnAbort) × HasAborted x s (e ∷ past)
    by was (inl g) = (let q = was g in (q.0, inr q.1))
    by was (inr g) = (g.0, inl g.1)

-- an end that has fallen back is reset for a cause that the history shows
pub fallen-shown : (setup : Setup) (payload : List ℕ) (x : Side) (s : ℕ) (past : List Entry) (c : ResetCause) → is_fallen x s past ≡ true → Has c (fallen_phase x s past) → IsShown setup payload x s past c
fallen-shown setup payload x s past c fallen e = by (peer_did (λ p. is_some (cause_of p)) x s past) refl e
  where
    own : Has c (own_phase x s past) → IsShown setup payload x s past c
    own f = let q = own-shown x s c past f in subst (IsShown setup payload x s past) (sym q.0) q.1

    aborted : (o : Option ResetCause) → cause_of (own_phase (other x) s past) ≡ o → is_some o ≡ true → HasAborted (other x) s past
    aborted None i k = absurd (true≢false (sym k))
    aborted (Some d) i k = let q = own-shown (other x) s d past i in q.1

    peer : peer_did (λ p. is_some (cause_of p)) x s past ≡ true → IsShown setup payload x s past PeerAbort
    peer q = let both = and-both (is_fallen (other x) s past) (is_some (cause_of (own_phase (other x) s past))) q in inr (aborted (cause_of (own_phase (other x) s past)) refl both.1, (fallen, both.0))

    struck-by : peer_did (λ p. is_some (cause_of p)) x s past ≡ true → Has c (own_phase x s past) ⊎ ((c ≡ PeerAbort) × (is_open (own_phase x s past) ≡ true)) → IsShown setup payload x s past c
    struck-by q (inl f) = own f
    struck-by q (inr f) = subst (IsShown setup payload x s past) (sym f.0) (peer q)

    by : (b : Bool) → peer_did (λ p. is_some (cause_of p)) x s past ≡ b → Has c (if b then struck PeerAbort (own_phase x s past) else own_phase x s past) → IsShown setup payload x s past c
    by true q f = struck-by q (struck-new c PeerAbort (own_phase x s past) f)
    by false q f = own f
