-- What one item makes of each end of a pipe.
use Rattle.std.proofs.Common.{◌≡◌, ◌∙◌, ℕ, Bool, true, false, if◌then◌else◌, List, [], ◌∷◌, ◌++◌, length, drop, refl, ap}
use Rattle.std.proofs.Math.Seq.{drop-append_seam}
use Rattle.smc_num.specs.declared.Side.{Side}
use Rattle.smc_num.specs.declared.Side.TheVariants.{A, B}
use Rattle.smc_num.specs.declared.LinkId.{LinkId}
use Rattle.smc_num.specs.declared.LinkPhase.TheVariants.{Live as LiveLink}
use Rattle.smc_num.specs.Names.{other, head}
use Rattle.pipe_model.specs.declared.sent.Sent.{Sent}
use Rattle.pipe_model.specs.Ends.{Half, comes_up, meets_fate, settle, is_due, posts_batch, batch, takes, completes, lands, to_land, to_complete}
use Rattle.pipe_model.specs.Calls.{Call, calls}
use Rattle.pipe_model.specs.Pipe.{Terms, Item, Up, Fate, Calls, Lands, Completes, half, pipe, sent_since}
use Rattle.pipe_model.proofs.Pipes.{nothing-due}
use Rattle.world_core.proofs.Quiet.{not-due-down}

-- nothing is due at the end of a part
pub rests : (t : Terms) (x : Side) (items : List Item) → settle t.depth (half x (pipe t items)) ≡ half x (pipe t items)
rests t x items = ap (λ b. if b then posts_batch (half x (pipe t items)) else half x (pipe t items)) (nothing-due t x items)

-- nor as its message leaves it
pub rests-landed : (t : Terms) (x : Side) (items : List Item) → settle t.depth (lands (half x (pipe t items))) ≡ lands (half x (pipe t items))
rests-landed t x items = ap (λ b. if b then posts_batch (lands (half x (pipe t items))) else lands (half x (pipe t items))) (nothing-due t x items)

module _ (t : Terms) (items : List Item) where
  -- a call
  pub called : (x : Side) (call : Call) → half x (pipe t (Calls x call ∷ items)) ≡ settle t.depth (calls t.size call (half x (pipe t items)))
  called A call = refl
  called B call = refl

  pub called-other : (x : Side) (call : Call) → half (other x) (pipe t (Calls x call ∷ items)) ≡ half (other x) (pipe t items)
  called-other A call = rests t B items
  called-other B call = rests t A items

  -- a completion
  pub completed : (x : Side) → half x (pipe t (Completes x ∷ items)) ≡ settle t.depth (completes (head (to_complete (half x (pipe t items)))) (half x (pipe t items)))
  completed A = refl
  completed B = refl

  pub completed-other : (x : Side) → half (other x) (pipe t (Completes x ∷ items)) ≡ half (other x) (pipe t items)
  completed-other A = rests t B items
  completed-other B = rests t A items

  -- a landing
  pub landed : (x : Side) → half x (pipe t (Lands x ∷ items)) ≡ lands (half x (pipe t items))
  landed A = rests-landed t A items
  landed B = rests-landed t B items

  pub taken : (x : Side) → half (other x) (pipe t (Lands x ∷ items)) ≡ settle t.depth (takes (head (to_land (half x (pipe t items)))) (half (other x) (pipe t items)))
  taken A = refl
  taken B = refl

-- the link goes live at the side of an end that is not established, which is so with it
module _ (t : Terms) (items : List Item) (link : LinkId) where
  hears : (depth : ℕ) (h : Half) → h.up ≡ false → settle depth (meets_fate link LiveLink h) ≡ meets_fate link LiveLink h
  hears depth h e = ap (λ b. if b then posts_batch (meets_fate link LiveLink h) else meets_fate link LiveLink h) (not-due-down depth (meets_fate link LiveLink h) e)

  pub risen : (x : Side) → (half x (pipe t items)).up ≡ false → half x (pipe t (Up x link ∷ Fate x link LiveLink ∷ items)) ≡ settle t.depth (comes_up link (meets_fate link LiveLink (half x (pipe t items))))
  risen A e = ap (λ h. settle t.depth (comes_up link h)) (hears t.depth (half A (pipe t items)) e)
  risen B e = ap (λ h. settle t.depth (comes_up link h)) (hears t.depth (half B (pipe t items)) e)

  pub risen-other : (x : Side) → half (other x) (pipe t (Up x link ∷ Fate x link LiveLink ∷ items)) ≡ half (other x) (pipe t items)
  risen-other A = rests t B (Fate A link LiveLink ∷ items) ∙ rests t B items
  risen-other B = rests t A (Fate B link LiveLink ∷ items) ∙ rests t A items

-- what an end sends as what is due is posted
pub sent-by : (depth : ℕ) (before now : Half) → now.sent ≡ before.sent → sent_since before (settle depth now) ≡ (if is_due depth now then batch now ∷ [] else [])
sent-by depth before now e = by (is_due depth now)
  where
    nothing-since : (ms : List Sent) → drop (length ms) ms ≡ []
    nothing-since [] = refl
    nothing-since (m ∷ ms) = nothing-since ms

    by : (b : Bool) → sent_since before (if b then posts_batch now else now) ≡ (if b then batch now ∷ [] else [])
    by true = ap (λ (ms : List Sent). drop (length before.sent) (ms ++ batch now ∷ [])) e ∙ drop-append_seam before.sent (batch now ∷ [])
    by false = ap (λ (ms : List Sent). drop (length before.sent) ms) e ∙ nothing-since before.sent
