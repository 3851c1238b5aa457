-- What an item does to the messages of an end: they grow at their end, and at most one of them lands or completes.
use Rattle.std.proofs.Common.{Bool, [], ap, append-nil, append_assoc, arith, drop, false, if◌then◌else◌, length, max, nat_lt, not, refl, subst, sym, true, ℕ, ◌&&◌, ◌++◌, ◌+◌, ◌<◌, ◌∙◌, ◌∷◌, ◌≡◌}
use Rattle.pipe_model.specs.Ends.{batch, lands, present}
use Rattle.pipe_model.specs.Pipe.{Lands}
use Rattle.pipe_model.specs.declared.sent.Sent.{Sent}
use Rattle.std.specs.Prelude.{Some}
use Rattle.pipe_model.specs.Snapshot.{tells_same}
use Rattle.pipe_model.specs.Closing.{is_group_gone}
use Rattle.history_laws.specs.Words.{A, B, Completes, Half, Item, Pipe, Side, Terms, after_completing, apply, completes, counts_completed, half, has_link, head, is_due, posts_batch, settle, step, to_complete}
use Rattle.history_laws.specs.Wires.{HasGone}

-- whichever of two
pub either : (P : Half → Type 0) (h1 h2 : Half) (b : Bool) → P h1 → P h2 → P (if b then h1 else h2)
either P h1 h2 true p q = p
either P h1 h2 false p q = q

none-more : (h k : Half) → k.sent ≡ h.sent → HasGone h k k.landed k.completed
none-more h k e = record { landed_is = refl; completed_is = refl; more = []; sent_is = e ∙ sym (append-nil h.sent) }

settle-gone : (depth : ℕ) (h k : Half) (l c : ℕ) → HasGone h k l c → HasGone h (settle depth k) l c
settle-gone depth h k l c p = either (λ j. HasGone h j l c) (posts_batch k) k (is_due depth k)
    (record {
      landed_is = p.landed_is;
      completed_is = p.completed_is;
      more = p.more ++ batch k ∷ [];
      sent_is = ap (λ ms. ms ++ batch k ∷ []) p.sent_is ∙ append_assoc h.sent p.more (batch k ∷ []);
    }) p

pub settled-half : (t : Terms) (x : Side) (item : Item) (p : Pipe) → half x (step t item p) ≡ settle t.depth (half x (apply t.size item p))
settled-half t A item p = refl
settled-half t B item p = refl

gone-step : (t : Terms) (x : Side) (item : Item) (p : Pipe) (l c : ℕ) → HasGone (half x p) (half x (apply t.size item p)) l c → HasGone (half x p) (half x (step t item p)) l c
gone-step t x item p l c g = subst (λ k. HasGone (half x p) k l c) (sym (settled-half t x item p)) (settle-gone t.depth (half x p) (half x (apply t.size item p)) l c g)

landed-one : (size : ℕ) (x : Side) (p : Pipe) → HasGone (half x p) (half x (apply size (Lands x) p)) ((half x p).landed + 1) (half x p).completed
landed-one size A p = none-more p.a (lands p.a) refl
landed-one size B p = none-more p.b (lands p.b) refl

-- a message lands
pub lands-one : (t : Terms) (x : Side) (p : Pipe) → HasGone (half x p) (half x (step t (Lands x) p)) ((half x p).landed + 1) (half x p).completed
lands-one t x p = gone-step t x (Lands x) p _ _ (landed-one t.size x p)

completed-by : (m : Sent) (h : Half) → h.completed < h.landed → HasGone h (completes (Some m) h) h.landed (h.completed + 1)
completed-by m h l =
    let e : max h.landed (h.completed + 1) ≡ h.landed = omega (arith, l) in
    either (λ k. HasGone h k h.landed (h.completed + 1)) (counts_completed h) (record (counts_completed h) { fin = m.snapshot; flight = drop 1 h.flight; phase = after_completing m.snapshot h.phase }) m.check
    (record { landed_is = e; completed_is = refl; more = []; sent_is = sym (append-nil h.sent) })
    (record { landed_is = e; completed_is = refl; more = []; sent_is = sym (append-nil h.sent) })

completed-one : (size : ℕ) (x : Side) (p : Pipe) (m : Sent) → head (to_complete (half x p)) ≡ Some m → (half x p).completed < (half x p).landed →
    HasGone (half x p) (half x (apply size (Completes x) p)) (half x p).landed ((half x p).completed + 1)
completed-one size A p m e l = subst (λ o. HasGone p.a (completes o p.a) p.a.landed (p.a.completed + 1)) (sym e) (completed-by m p.a l)
completed-one size B p m e l = subst (λ o. HasGone p.b (completes o p.b) p.b.landed (p.b.completed + 1)) (sym e) (completed-by m p.b l)

-- a message that has landed completes
pub completes-one : (t : Terms) (x : Side) (p : Pipe) (m : Sent) → head (to_complete (half x p)) ≡ Some m → (half x p).completed < (half x p).landed →
    HasGone (half x p) (half x (step t (Completes x) p)) (half x p).landed ((half x p).completed + 1)
completes-one t x p m e l = gone-step t x (Completes x) p _ _ (completed-one t.size x p m e l)

-- an end that is due is established
due-up : (up rest : Bool) (b : Bool) → ((up && b) && rest) ≡ true → up ≡ true
due-up true rest b e = refl
due-up false rest b e = e

pub is-up-where-due : (depth : ℕ) (h : Half) → is_due depth h ≡ true → h.up ≡ true
is-up-where-due depth h e = due-up h.up (has_link h.link h.live && (nat_lt (length h.flight) depth && not (tells_same (present h) h.last))) (not (is_group_gone h.phase)) e
