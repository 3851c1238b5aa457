-- Writes and reads: an end that is up is called, at its manager, and posts what is due then; else nothing changes.
use Rattle.std.proofs.Common.{◌≡◌, ◌∙◌, ℕ, ◌+◌, ◌<◌, ◌==◌, ◌&&◌, ◌||◌, min, Bool, true, false, if◌then◌else◌, List, [], ◌∷◌, ◌++◌, take, refl, ap, sym, eq-eqb, eqb-true, not, true≢false}
use Rattle.std.specs.Prelude.{is_some, unwrap_or, option_map}
use Rattle.smc_num.specs.declared.Side.{Side}
use Rattle.smc_num.specs.declared.LinkId.{LinkId}
use Rattle.smc_num.specs.Names.{other}
use Rattle.rmb_region.specs.Regions.{Buffer}
use Rattle.pipe_model.specs.declared.setup.Setup.{Setup}
use Rattle.pipe_model.specs.declared.event.End.{End}
use Rattle.pipe_model.specs.declared.entry.Entry.{Entry}
use Rattle.pipe_model.specs.Closing.{cause_of, is_closing}
use Rattle.pipe_model.specs.Ends.{Half, window, unread, settle}
use Rattle.pipe_model.specs.Words.{element_size}
use Rattle.pipe_model.specs.Calls.{Call, Writes, Reads, calls, is_ended}
use Rattle.pipe_model.specs.Pipe.{Item, Calls, half, pipe}
use Rattle.pipe_model.specs.Connections.{is_up, call_on, deeds, group_on, part}
use Rattle.pipe_model.specs.Lending.{terms_of}
use Rattle.pipe_model.specs.Lawful.{asked}
use Rattle.side_core.specs.Acting.{acts_at, due_at, call_of}
use Rattle.world_core.specs.OneLink.{Stage}
use Rattle.world_core.specs.Played.{IsMade}
use Rattle.world_core.specs.Wired.{is_transfer}
use Rattle.world_core.specs.Managers.{manager_of, end_of}
use Rattle.world_core.proofs.PipeSteps.{called, called-other}
use Rattle.world_core.proofs.QuietEntries.{IsCalm}
use Rattle.world_core.proofs.KeyedEnds.{KnowsEnds, up-facts}
use Rattle.world_core.proofs.ActedEnds.{one-acted, one-kept, one-posts, all-kept, nothing-posted, after_at}

-- two ends of which the one is established and on its link as the other, and has sent the same
pub record IsSent (h k : Half) : Type 0 where
  pub up : h.up ≡ k.up
  pub link : h.link ≡ k.link
  pub sent : h.sent ≡ k.sent

pub sent-either : (b : Bool) (h k l : Half) → IsSent h l → IsSent k l → IsSent (if b then h else k) l
sent-either true h k l p q = p
sent-either false h k l p q = q

pub sent-self : (h : Half) → IsSent h h
sent-self h = record { up = refl; link = refl; sent = refl }

call-sent : (size : ℕ) (call : Call) (h : Half) → is_transfer call ≡ true → IsSent (calls size call h) h
call-sent size (Writes bytes) h t = sent-either (is_some (cause_of h.phase) || is_ended h) h (record h { out = h.out ++ take (window size h) bytes }) h (sent-self h) (record { up = refl; link = refl; sent = refl })
call-sent size (Reads n) h t = sent-either (is_some (cause_of h.phase) || is_closing h.phase) h (record h { rd = h.rd + min n (unread h) }) h (sent-self h) (record { up = refl; link = refl; sent = refl })
call-sent size _ h t = absurd (true≢false (sym t))

-- what a call makes of the managers of its side and of the other one, and what is posted
pub record IsCalled (setup : Setup) (payload : List ℕ) (regions : List Buffer) (x : Side) (s : ℕ) (call : Call) (e : Entry) (past : List Entry) : Type 0 where
  pub own : manager_of setup payload regions x (e ∷ past) ≡ acts_at s (call_of call (manager_of setup payload regions x past)) (manager_of setup payload regions x past)
  pub theirs : manager_of setup payload regions (other x) (e ∷ past) ≡ manager_of setup payload regions (other x) past
  pub posts : e.posts ≡ due_at s (call_of call (manager_of setup payload regions x past)) (manager_of setup payload regions x past)

-- an entry that leaves the manager of a side as it is, and posts nothing
pub record IsNothing (setup : Setup) (payload : List ℕ) (regions : List Buffer) (e : Entry) (past : List Entry) : Type 0 where
  pub kept : (x : Side) → manager_of setup payload regions x (e ∷ past) ≡ manager_of setup payload regions x past
  pub posts : e.posts ≡ []

module _ (setup : Setup) (payload : List ℕ) (regions : List Buffer) (stage : Stage) (e : Entry) (past : List Entry) (calm : IsCalm setup payload stage e past) (knows : KnowsEnds setup payload past)
    (before : ℕ) (made : IsMade setup payload past before e) (none_asked : asked setup payload past e.event e.reply ≡ []) where
  pub nothing-done : ((s : ℕ) → deeds payload s e.event e.reply past ≡ []) → IsNothing setup payload regions e past
  nothing-done none = record {
    kept = all-kept setup payload regions stage e past calm knows none;
    posts = nothing-posted setup payload regions stage e past calm knows before made none_asked none;
  }

  module _ (end : End) (call : Call) (is_call : (s : ℕ) → deeds payload s e.event e.reply past ≡ call_on end call s past) where
    pub not-called : is_up end.side end.s past ≡ false → IsNothing setup payload regions e past
    not-called down = nothing-done (λ s. is_call s ∙ by s (s == end.s) refl)
      where
        by : (s : ℕ) (b : Bool) → (s == end.s) ≡ b → call_on end call s past ≡ []
        by s true is = ap (λ (k : ℕ). call_on end call k past) (eqb-true s end.s is) ∙ (ap (λ b. if (end.s == end.s) && b then Calls end.side call ∷ [] else []) down ∙ none (end.s == end.s))
          where
            none : (b : Bool) → (if b && false then Calls end.side call ∷ [] else []) ≡ []
            none true = refl
            none false = refl
        by s false is = ap (λ b. if b && is_up end.side s past then Calls end.side call ∷ [] else []) is

    pub is-called : is_transfer call ≡ true → end.s < setup.sockets → is_up end.side end.s past ≡ true → IsCalled setup payload regions end.side end.s call e past
    is-called transfer known up =
        let x : Side = end.side in
        let s : ℕ = end.s in
        let items : List Item = part payload (group_on s past) s past in
        let one : deeds payload s e.event e.reply past ≡ Calls x call ∷ [] =
        is_call s ∙ (ap (λ b. if b && is_up x s past then Calls x call ∷ [] else []) (eq-eqb s s refl) ∙ ap (λ b. if b then Calls x call ∷ [] else []) up) in
        let others : (t : ℕ) → (t == s) ≡ false → deeds payload t e.event e.reply past ≡ [] = λ t n. is_call t ∙ ap (λ b. if b && is_up x t past then Calls x call ∷ [] else []) n in
        let kept = call-sent (element_size setup) call (end_of setup payload x s past) transfer in
        let f = up-facts setup payload stage x s past calm.world knows up in
        let own : after_at setup payload regions stage e past calm knows x s ≡ settle setup.depth (calls (element_size setup) call (end_of setup payload x s past)) =
        ap (λ (is : List Item). half x (pipe (terms_of setup) (is ++ items))) one ∙ called (terms_of setup) items x call in
        let theirs : after_at setup payload regions stage e past calm knows (other x) s ≡ end_of setup payload (other x) s past =
        ap (λ (is : List Item). half (other x) (pipe (terms_of setup) (is ++ items))) one ∙ called-other (terms_of setup) items x call in
        record {
          own = one-acted setup payload regions stage e past calm knows s known others x (λ h. calls (element_size setup) call h) own;
          theirs = one-kept setup payload regions stage e past calm knows s known others (other x) theirs;
          posts = one-posts setup payload regions stage e past calm knows before made none_asked x s (λ h. calls (element_size setup) call h) known
              (ap (λ o. not (unwrap_or (option_map (λ (link : LinkId). link.group) o) 0 == 0)) f.named) others own (ap (λ (h : Half). h.sent) theirs) kept.up kept.link kept.sent;
        }
