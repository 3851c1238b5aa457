-- Landings and completions: a CDC message is taken by its end, or counts as completed at the end that sent it, and what is due then
-- is posted; a write, or no post, changes nothing that a manager keeps beside its buffers.
use Rattle.std.proofs.Common.{◌≡◌, ◌∙◌, ℕ, ◌<◌, ◌==◌, ◌&&◌, not, Bool, true, false, if◌then◌else◌, List, [], ◌∷◌, ◌++◌, drop, refl, ap, sym, eq-eqb, eqb-true, true≢false}
use Rattle.std.specs.Prelude.{Option, Some, None, option_map, unwrap_or}
use Rattle.smc_num.specs.declared.Side.{Side}
use Rattle.smc_num.specs.declared.Side.TheVariants.{A, B}
use Rattle.smc_num.specs.declared.LinkId.{LinkId}
use Rattle.smc_num.specs.Names.{other, head}
use Rattle.smc_num.specs.Numbers.{wire_number}
use Rattle.cdc_wire.specs.declared.CdcMessage.{CdcMessage}
use Rattle.rmb_region.specs.Regions.{Buffer}
use Rattle.pipe_model.specs.declared.setup.Setup.{Setup}
use Rattle.pipe_model.specs.declared.reply.ResetCause.TheVariants.{PeerAbort, Gap}
use Rattle.pipe_model.specs.declared.post.Post.TheVariants.{Write, Cdc}
use Rattle.pipe_model.specs.declared.post.PostRef.{PostRef}
use Rattle.pipe_model.specs.declared.entry.Entry.{Entry}
use Rattle.pipe_model.specs.declared.sent.Sent.{Sent}
use Rattle.pipe_model.specs.Words.{passes}
use Rattle.pipe_model.specs.Snapshot.{shows_gap}
use Rattle.pipe_model.specs.Closing.{after_completing}
use Rattle.pipe_model.specs.History.{Offered, offered, post_at, is_cdc}
use Rattle.pipe_model.specs.Ends.{Half, settle, is_over, takes, takes_snapshot, validates, strikes, completes, counts_completed, lands, to_land, to_complete}
use Rattle.pipe_model.specs.Pipe.{Item, Lands, Completes, half, pipe}
use Rattle.pipe_model.specs.Connections.{group_on, is_own, if_own, names_cdc, deeds, part}
use Rattle.pipe_model.specs.Lending.{terms_of}
use Rattle.pipe_model.specs.Posts.{is_offered}
use Rattle.pipe_model.specs.Lawful.{asked}
use Rattle.side_core.specs.Acting.{acts_at, due_at}
use Rattle.world_core.specs.OneLink.{Stage}
use Rattle.world_core.specs.Played.{IsMade}
use Rattle.world_core.specs.Agreement.{HasOffers}
use Rattle.world_core.specs.Managers.{manager_of, end_of, changes_end}
use Rattle.world_core.proofs.PipeSteps.{landed, taken, completed, completed-other}
use Rattle.world_core.proofs.QuietEntries.{IsCalm}
use Rattle.world_core.proofs.KeyedEnds.{KnowsEnds}
use Rattle.world_core.proofs.CallEntries.{IsSent, sent-either, sent-self}
use Rattle.world_core.proofs.ActedEnds.{one-acted, one-changed, one-kept, one-posts, after_at}
use Rattle.world_core.proofs.Plain.{same-self}

-- what is taken or completes leaves what was sent
takes-sent : (m : Sent) (h : Half) → IsSent (takes (Some m) h) h
takes-sent m h =
    sent-either (is_over h) h (if m.check then validates m.snapshot.number h else takes_snapshot m.snapshot h) h (sent-self h)
    (sent-either m.check (validates m.snapshot.number h) (takes_snapshot m.snapshot h) h
    (sent-either (shows_gap m.snapshot.number h.taken.number) (strikes (Gap (wire_number m.snapshot.number) (wire_number h.taken.number)) h) h h (record { up = refl; link = refl; sent = refl }) (sent-self h))
    (sent-either m.snapshot.aborted (strikes PeerAbort (record h { taken = m.snapshot })) (record h { taken = m.snapshot }) h (record { up = refl; link = refl; sent = refl }) (record { up = refl; link = refl; sent = refl })))

completes-sent : (m : Sent) (h : Half) → IsSent (completes (Some m) h) h
completes-sent m h =
    sent-either m.check (counts_completed h) (record (counts_completed h) { fin = m.snapshot; flight = drop 1 h.flight; phase = after_completing m.snapshot h.phase }) h
    (record { up = refl; link = refl; sent = refl }) (record { up = refl; link = refl; sent = refl })

-- whose message it is
abbrev is_theirs : Side → PostRef → List Entry → Option Offered → Bool
is_theirs x at past o = passes (λ o. names_cdc x o.offer.token at past) o

-- a CDC message under the token that the peer's offer on a socket gave
pub record IsMessage (x : Side) (s : ℕ) (at : PostRef) (past : List Entry) : Type 0 where
  pub link : LinkId
  pub message : CdcMessage
  pub post : post_at at past ≡ Some (Cdc x link message)
  pub offer : Offered
  pub offered_is : offered (other x) s past ≡ Some offer
  pub token : message.token ≡ offer.offer.token

module _ (setup : Setup) (past : List Entry) (offers : HasOffers setup past) (x : Side) (s : ℕ) (at : PostRef) (m : IsMessage x s at past) where
  named-by : (token : ℕ) (b : Bool) → (token == (m.message).token) ≡ b → names_cdc x token at past ≡ b
  named-by token b e = ap (λ p. passes (is_cdc x token) p) m.post ∙ (ap (λ c. c && (token == (m.message).token)) (same-self x) ∙ e)

  own-here : is_own x s past at ≡ true
  own-here = ap (λ o. is_theirs x at past o) m.offered_is ∙ named-by ((m.offer).offer).token true (eq-eqb ((m.offer).offer).token (m.message).token (sym m.token))

  not-elsewhere : (t : ℕ) → (t == s) ≡ false → is_own x t past at ≡ false
  not-elsewhere t n = by (offered (other x) t past) refl
    where
      by : (o : Option Offered) → offered (other x) t past ≡ o → is_theirs x at past o ≡ false
      by None e = refl
      by (Some r) e = by_token ((r.offer).token == (m.message).token) refl
        where
          by_token : (b : Bool) → ((r.offer).token == (m.message).token) ≡ b → names_cdc x (r.offer).token at past ≡ false
          by_token false f = named-by (r.offer).token false f
          by_token true f =
              let same : t ≡ s = offers.tokens (other x) t s r m.offer e m.offered_is (eqb-true (r.offer).token (m.message).token f ∙ m.token) in
              absurd (true≢false (sym (eq-eqb t s same) ∙ n))

  pub given-here : (item : Item) → if_own item x s (Some at) past ≡ item ∷ []
  given-here item = ap (λ b. if b then item ∷ [] else []) own-here

  pub given-elsewhere : (item : Item) (t : ℕ) → (t == s) ≡ false → if_own item x t (Some at) past ≡ []
  given-elsewhere item t n = ap (λ b. if b then item ∷ [] else []) (not-elsewhere t n)

-- a write is nobody's message
pub not-message : (x y : Side) (link : LinkId) (key address len : ℕ) (at : PostRef) (past : List Entry) (item : Item) (t : ℕ) → post_at at past ≡ Some (Write y link key address len) → if_own item x t (Some at) past ≡ []
not-message x y link key address len at past item t e = by (offered (other x) t past)
  where
    by : (o : Option Offered) → (if is_theirs x at past o then item ∷ [] else []) ≡ []
    by None = refl
    by (Some r) = ap (λ p. if passes (is_cdc x (r.offer).token) p then item ∷ [] else []) e

-- what becomes of the managers as a message lands
pub record IsTaken (setup : Setup) (payload : List ℕ) (regions : List Buffer) (x : Side) (s : ℕ) (sent : Sent) (e : Entry) (past : List Entry) : Type 0 where
  pub taker : manager_of setup payload regions (other x) (e ∷ past) ≡ acts_at s (takes (Some sent)) (manager_of setup payload regions (other x) past)
  pub sender : manager_of setup payload regions x (e ∷ past) ≡ changes_end s lands (manager_of setup payload regions x past)
  pub posts : e.posts ≡ due_at s (takes (Some sent)) (manager_of setup payload regions (other x) past)

-- as one completes
pub record IsDone (setup : Setup) (payload : List ℕ) (regions : List Buffer) (x : Side) (s : ℕ) (sent : Sent) (e : Entry) (past : List Entry) : Type 0 where
  pub own : manager_of setup payload regions x (e ∷ past) ≡ acts_at s (completes (Some sent)) (manager_of setup payload regions x past)
  pub theirs : manager_of setup payload regions (other x) (e ∷ past) ≡ manager_of setup payload regions (other x) past
  pub posts : e.posts ≡ due_at s (completes (Some sent)) (manager_of setup payload regions x past)

-- a socket on which the other side has offered a connection
of-b : (setup : Setup) (past : List Entry) (offers : HasOffers setup past) (s : ℕ) (o : Offered) → offered B s past ≡ Some o → is_offered past s ≡ true
of-b setup past offers s o e =
    let on = offers.link B s o e in
    ap (λ o. not (unwrap_or (option_map (λ (link : LinkId). link.group) (option_map (λ (p : Offered). p.link) o)) 0 == 0)) e ∙ ap (λ (link : LinkId). not (link.group == 0)) on

group-of : (setup : Setup) (past : List Entry) (offers : HasOffers setup past) (x : Side) (s : ℕ) (o : Offered) → offered x s past ≡ Some o → is_offered past s ≡ true
group-of setup past offers B s o e = of-b setup past offers s o e
group-of setup past offers A s o e = by (offered B s past) refl
  where
    some-none : (o : Offered) → None ≡ Some o → ⊥
    some-none o e = cc

    by : (p : Option Offered) → offered B s past ≡ p → is_offered past s ≡ true
    by (Some p) f = of-b setup past offers s p f
    by None f = let none : offered A s past ≡ None = offers.answer s f in absurd (some-none o (sym none ∙ e))

module _ (setup : Setup) (payload : List ℕ) (regions : List Buffer) (stage : Stage) (e : Entry) (past : List Entry) (calm : IsCalm setup payload stage e past) (knows : KnowsEnds setup payload past)
    (before : ℕ) (made : IsMade setup payload past before e) (none_asked : asked setup payload past e.event e.reply ≡ []) (offers : HasOffers setup past) (at : PostRef) where
  abbrev items_of : ℕ → List Item
  items_of s = part payload (group_on s past) s past

  module _ (x : Side) (s : ℕ) (m : IsMessage x s at past) where
    known : s < setup.sockets
    known = offers.known (other x) s m.offer m.offered_is

    pub message-completes : (sent : Sent) → ((t : ℕ) → deeds payload t e.event e.reply past ≡ if_own (Completes x) x t (Some at) past)
        → head (to_complete (end_of setup payload x s past)) ≡ Some sent → IsDone setup payload regions x s sent e past
    message-completes sent is first =
        let one : deeds payload s e.event e.reply past ≡ Completes x ∷ [] = is s ∙ given-here setup past offers x s at m (Completes x) in
        let others : (t : ℕ) → (t == s) ≡ false → deeds payload t e.event e.reply past ≡ [] = λ t n. is t ∙ given-elsewhere setup past offers x s at m (Completes x) t n in
        let kept = completes-sent sent (end_of setup payload x s past) in
        let own : after_at setup payload regions stage e past calm knows x s ≡ settle setup.depth (completes (Some sent) (end_of setup payload x s past)) =
        ap (λ (is : List Item). half x (pipe (terms_of setup) (is ++ items_of s))) one ∙ (completed (terms_of setup) (items_of s) x
        ∙ ap (λ o. settle setup.depth (completes o (end_of setup payload x s past))) first) in
        let theirs : after_at setup payload regions stage e past calm knows (other x) s ≡ end_of setup payload (other x) s past =
        ap (λ (is : List Item). half (other x) (pipe (terms_of setup) (is ++ items_of s))) one ∙ completed-other (terms_of setup) (items_of s) x in
        record {
          own = one-acted setup payload regions stage e past calm knows s known others x (completes (Some sent)) own;
          theirs = one-kept setup payload regions stage e past calm knows s known others (other x) theirs;
          posts = one-posts setup payload regions stage e past calm knows before made none_asked x s (completes (Some sent)) known
              (group-of setup past offers (other x) s m.offer m.offered_is) others own (ap (λ (h : Half). h.sent) theirs) kept.up kept.link kept.sent;
        }

    pub message-lands : (sent : Sent) → ((t : ℕ) → deeds payload t e.event e.reply past ≡ if_own (Lands x) x t (Some at) past)
        → head (to_land (end_of setup payload x s past)) ≡ Some sent → IsTaken setup payload regions x s sent e past
    message-lands sent is first =
        let one : deeds payload s e.event e.reply past ≡ Lands x ∷ [] = is s ∙ given-here setup past offers x s at m (Lands x) in
        let others : (t : ℕ) → (t == s) ≡ false → deeds payload t e.event e.reply past ≡ [] = λ t n. is t ∙ given-elsewhere setup past offers x s at m (Lands x) t n in
        let kept = takes-sent sent (end_of setup payload (other x) s past) in
        let sends : after_at setup payload regions stage e past calm knows x s ≡ lands (end_of setup payload x s past) =
        ap (λ (is : List Item). half x (pipe (terms_of setup) (is ++ items_of s))) one ∙ landed (terms_of setup) (items_of s) x in
        let takes_it : after_at setup payload regions stage e past calm knows (other x) s ≡ settle setup.depth (takes (Some sent) (end_of setup payload (other x) s past)) =
        ap (λ (is : List Item). half (other x) (pipe (terms_of setup) (is ++ items_of s))) one ∙ (taken (terms_of setup) (items_of s) x
        ∙ ap (λ o. settle setup.depth (takes o (end_of setup payload (other x) s past))) first) in
        record {
          taker = one-acted setup payload regions stage e past calm knows s known others (other x) (takes (Some sent)) takes_it;
          sender = one-changed setup payload regions stage e past calm knows s known others x lands sends;
          posts = one-posts setup payload regions stage e past calm knows before made none_asked (other x) s (takes (Some sent)) known
              (group-of setup past offers (other x) s m.offer m.offered_is) others takes_it (back x (ap (λ (h : Half). h.sent) sends)) kept.up kept.link kept.sent;
        }
      where
        back : (y : Side) → (after_at setup payload regions stage e past calm knows y s).sent ≡ (end_of setup payload y s past).sent
            → (after_at setup payload regions stage e past calm knows (other (other y)) s).sent ≡ (end_of setup payload (other (other y)) s past).sent
        back A f = f
        back B f = f
