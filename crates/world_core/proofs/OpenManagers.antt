-- A socket is opened, or both its ends fall back at once: its handshakes change at both managers, and nothing else.
use Rattle.smc_num.specs.declared.LinkId.{LinkId}
use Rattle.pipe_model.specs.declared.reply.Lack.TheVariants.{NotCapable}
use Rattle.pipe_model.specs.Keys.{book_clc, book_of}
use Rattle.std.proofs.Common.{◌≡◌, ◌∙◌, ℕ, ◌==◌, ◌&&◌, ◌||◌, not, Bool, true, false, if◌then◌else◌, List, [], ◌∷◌, ◌++◌, refl, ap, sym, subst, eq-eqb, eqb-true, append-nil, true≢false, length}
use Rattle.std.specs.Prelude.{None, option_map, unwrap_or, slice_set, slice_index_or}
use Rattle.smc_num.specs.declared.Side.{Side}
use Rattle.smc_num.specs.declared.Side.TheVariants.{A, B}
use Rattle.smc_num.specs.Names.{other}
use Rattle.rmb_region.specs.Regions.{Buffer}
use Rattle.pipe_model.specs.declared.setup.Setup.{Setup}
use Rattle.pipe_model.specs.declared.event.Event.TheVariants.{Open}
use Rattle.pipe_model.specs.declared.reply.Reply.{Reply}
use Rattle.pipe_model.specs.declared.reply.Reply.TheVariants.{NameUsed, Declined, Opened}
use Rattle.pipe_model.specs.declared.reply.Lack.{Lack}
use Rattle.pipe_model.specs.declared.post.Post.{Post}
use Rattle.pipe_model.specs.declared.entry.Entry.{Entry}
use Rattle.pipe_model.specs.History.{Offered, offered}
use Rattle.pipe_model.specs.Fabric.{fabric, act_in, act_by, group_of}
use Rattle.pipe_model.specs.Connections.{EndState, NoEnd, IsUp, HasFallen, is_up, early_state, end_state, after_event, after_loss, group_on, up_by, items}
use Rattle.pipe_model.specs.Lending.{lent, leaves_handshake, lendings, free_places, Lending}
use Rattle.pipe_model.specs.Fallback.{is_raw, is_opened}
use Rattle.pipe_model.specs.Posts.{proposal_post, connection_posts}
use Rattle.pipe_model.specs.Replies.{open_told}
use Rattle.pipe_model.specs.Lawful.{asked}
use Rattle.clc_handshake.specs.Stages.{Hand, first_state}
use Rattle.side_core.specs.Manager.{with_hand}
use Rattle.world_core.specs.OneLink.{Stage, fabric_at}
use Rattle.world_core.specs.Sockets.{Socket, Unopened, IsWorld, opened_at, up_at, early_at, HasSocket}
use Rattle.world_core.specs.Played.{IsPlayed}
use Rattle.world_core.specs.Agreement.{IsShaken}
use Rattle.world_core.specs.Managers.{manager_of, hand_of, awaits_confirm, conn_of, each_socket, desk_of}
use Rattle.world_core.proofs.QuietEvents.{by-side, entry-of}
use Rattle.world_core.proofs.QuietEntries.{only-deeds, same-group}
use Rattle.world_core.proofs.Parts.{part-open}
use Rattle.world_core.proofs.PlainPosts.{ArePlain, offer-stays, lends-none, lendings-stay}
use Rattle.world_core.proofs.StillEntries.{silent-pipes, end-stays, lent-stays, still-desk}
use Rattle.world_core.proofs.SameManagers.{SameDesk, SameRoute, same-desk, same-conn, same-spare}
use Rattle.world_core.proofs.KeptManagers.{by-parts}
use Rattle.world_core.proofs.Tables.{same-sockets, set-socket}

-- what becomes of both managers as the handshakes of a socket change
pub record IsSet (setup : Setup) (payload : List ℕ) (regions : List Buffer) (s : ℕ) (state : Side → EndState) (posts : List Post) (e : Entry) (past : List Entry) : Type 0 where
  pub both : (x : Side) → manager_of setup payload regions x (e ∷ past) ≡ with_hand s (record { raw = false; state = state x }) (manager_of setup payload regions x past)
  pub posts_are : e.posts ≡ posts

-- a socket that was not opened has no end
unopened : (k : Socket) → opened_at k ≡ false → k ≡ Unopened
unopened Unopened e = refl
unopened _ e = absurd (true≢false e)

not-opened : (setup : Setup) (s : ℕ) (past : List Entry) → (open_told setup s past ≡ NameUsed → ⊥) → is_opened s past ≡ false
not-opened setup s past new = by (is_opened s past) (is_raw s past) refl
  where
    by : (b r : Bool) → is_opened s past ≡ b → is_opened s past ≡ false
    by true r e = absurd (new (ap (λ b. if b || is_raw s past then NameUsed else if not (slice_index_or setup.capable 0 false && slice_index_or setup.capable 1 false) then Declined (NotCapable (slice_index_or setup.capable 0 false) (slice_index_or setup.capable 1 false)) else Opened) e))
    by false r e = e

module _ (setup : Setup) (payload : List ℕ) (regions : List Buffer) (stage : Stage) (past : List Entry) (world : IsWorld setup stage past) (actor n s : ℕ) (reply : Reply) (posts front : List Post)
    (played : IsPlayed setup payload (entry-of actor (Open s) reply posts ∷ past) n) (shaken : IsShaken setup (entry-of actor (Open s) reply posts ∷ past))
    (new : (open_told setup s past ≡ NameUsed) → ⊥) (state : Side → EndState) (waits : (x : Side) → awaits_confirm (state x) ≡ false)
    (after : (x : Side) (t : ℕ) (st : EndState) → after_event x t (Open s) reply st ≡ (if t == s then state x else st))
    (asked_is : asked setup payload past (Open s) reply ≡ front) (plain : ArePlain front) where
  abbrev e : Entry
  e = entry-of actor (Open s) reply posts

  abbrev link-now : fabric past ≡ fabric_at stage
  link-now = let l = world.link in l.fabric_is

  acts : (q : Entry) → q.event ≡ Open s → (x : Side) → act_in x q past ≡ None
  acts q is = by-side (λ x. act_in x q past ≡ None) (ap (λ v. act_by A v q.reply past) is) (ap (λ v. act_by B v q.reply past) is)

  up-none : (r : Reply) → (x : Side) (t : ℕ) → up_by x t (Open s) r past ≡ None
  up-none r = by-side (λ x. (t : ℕ) → up_by x t (Open s) r past ≡ None) (λ t. refl) (λ t. refl)

  no-items : (a : ℕ) (ps : List Post) (g t : ℕ) → items payload g t (entry-of a (Open s) reply ps) past ≡ []
  no-items a ps g t = only-deeds payload stage (entry-of a (Open s) reply ps) past link-now refl (acts (entry-of a (Open s) reply ps) refl) (up-none reply) g t

  made-posts : posts ≡ front
  made-posts =
      let m = played.1 in
      m.posts
      ∙ (ap (λ r. let q : Entry = record { actor = 0; event = Open s; reply = r; posts = asked setup payload past (Open s) r } in q.posts ++ connection_posts setup payload q past) (sym m.reply)
      ∙ (ap (λ (ps : List Post). asked setup payload past (Open s) reply ++ ps) (silent-pipes setup payload past (entry-of 0 (Open s) reply (asked setup payload past (Open s) reply)) (no-items 0 (asked setup payload past (Open s) reply)))
      ∙ (append-nil (asked setup payload past (Open s) reply) ∙ asked_is)))

  plain-now : ArePlain posts
  plain-now = subst (λ (ps : List Post). ArePlain ps) (sym made-posts) plain

  lent-now : (x : Side) → lent setup payload x (e ∷ past) ≡ lent setup payload x past
  lent-now x = lent-stays setup payload x e past refl (λ g t. part-open setup payload g t (e ∷ past) n played shaken) (lends-none e past plain-now x)
      (by-side (λ x. (t : ℕ) → leaves_handshake x t (Open s) reply ≡ false) (λ t. refl) (λ t. refl) x)

  desk-now : (x : Side) → SameDesk setup payload x (e ∷ past) past
  desk-now x = still-desk setup payload stage x e past world.link refl (acts e refl x) plain-now
      (by-side (λ x. book_clc x (Open s) reply past (book_of x past) ≡ book_of x past) refl refl x) (lent-now x)

  up-same : (x : Side) (t : ℕ) → is_up x t (e ∷ past) ≡ is_up x t past
  up-same = by-side (λ x. (t : ℕ) → is_up x t (e ∷ past) ≡ is_up x t past) (λ t. refl) (λ t. refl)

  early-now : (x : Side) (t : ℕ) → early_state x t (e ∷ past) ≡ (if t == s then state x else early_state x t past)
  early-now x t =
      ap (λ b. after_loss b (group_on t past) (after_event x t (Open s) reply (early_state x t past))) (same-group (group_on t past) (group_of x past) (group_of x past) refl)
      ∙ after x t (early_state x t past)

  -- the socket had no end
  abbrev place : HasSocket setup stage s past
  place = world.sockets s

  was-unopened : place.at ≡ Unopened
  was-unopened = let h = place.stands in unopened place.at (sym h.opened ∙ not-opened setup s past new)

  was-down : (x : Side) → is_up x s past ≡ false
  was-down x = let h = place.stands in h.up x ∙ (ap (λ k. up_at k x) was-unopened ∙ down x)
    where
      down : (x : Side) → up_at Unopened x ≡ false
      down A = refl
      down B = refl

  was-none : (x : Side) → end_state x s past ≡ NoEnd
  was-none x = let h = place.stands in ap (λ b. if b then IsUp else early_state x s past) (was-down x) ∙ (h.early x ∙ ap (λ k. early_at k x) was-unopened)

  state-at : (x : Side) → end_state x s (e ∷ past) ≡ state x
  state-at x =
      ap (λ b. if b then IsUp else early_state x s (e ∷ past)) (up-same x s ∙ was-down x)
      ∙ (early-now x s ∙ ap (λ b. if b then state x else early_state x s past) (eq-eqb s s refl))

  state-else : (x : Side) (t : ℕ) → (t == s) ≡ false → end_state x t (e ∷ past) ≡ end_state x t past
  state-else x t n =
      ap (λ b. if b then IsUp else early_state x t (e ∷ past)) (up-same x t)
      ∙ ap (λ a. if is_up x t past then IsUp else a) (early-now x t ∙ ap (λ b. if b then state x else early_state x t past) n)

  waits-same : (x : Side) (t : ℕ) → awaits_confirm (end_state x t (e ∷ past)) ≡ awaits_confirm (end_state x t past)
  waits-same x t = by (t == s) refl
    where
      by : (b : Bool) → (t == s) ≡ b → awaits_confirm (end_state x t (e ∷ past)) ≡ awaits_confirm (end_state x t past)
      by true i = subst (λ k. awaits_confirm (end_state x k (e ∷ past)) ≡ awaits_confirm (end_state x k past)) (sym (eqb-true t s i))
          (ap (λ a. awaits_confirm a) (state-at x) ∙ (waits x ∙ sym (ap (λ a. awaits_confirm a) (was-none x))))
      by false i = ap (λ a. awaits_confirm a) (state-else x t i)

  route-same : (x : Side) (t : ℕ) → SameRoute x (e ∷ past) past t
  route-same x t = record {
    up = up-same x t;
    link = ap (λ o. option_map (λ (p : Offered). p.link) o) (offer-stays e past plain-now B t);
    heard = ap (λ b. if b then None else option_map (λ (p : Offered). p.offer) (offered (other x) t (e ∷ past))) (waits-same x t)
        ∙ ap (λ o. if awaits_confirm (end_state x t past) then None else option_map (λ (p : Offered). p.offer) o) (offer-stays e past plain-now (other x) t);
  }

  hand-else : (x : Side) (t : ℕ) → (t == s) ≡ false → hand_of x (e ∷ past) t ≡ hand_of x past t
  hand-else x t n = ap (λ a. let h : Hand = record { raw = is_raw t past; state = a } in h) (state-else x t n)

  hand-at : (x : Side) → hand_of x (e ∷ past) s ≡ record { raw = false; state = state x }
  hand-at x = let h = place.stands in ap (λ b. let h : Hand = record { raw = b; state = end_state x s (e ∷ past) } in h) h.raw ∙ ap (λ a. let h : Hand = record { raw = false; state = a } in h) (state-at x)

  pub opens-socket : IsSet setup payload regions s state front e past
  opens-socket = record {
    both = λ x. by-parts setup payload regions x (e ∷ past) (desk_of setup payload x past) (slice_set (each_socket (hand_of x past) setup.sockets) s (record { raw = false; state = state x }))
        (each_socket (conn_of setup payload x past) setup.sockets) (length (lendings x past)) (length (free_places setup payload x past))
        (same-desk setup payload x (e ∷ past) past (desk-now x))
        (sym (set-socket (hand_of x past) (hand_of x (e ∷ past)) setup.sockets s (hand-else x)) ∙ ap (λ h. slice_set (each_socket (hand_of x past) setup.sockets) s h) (hand-at x))
        (same-sockets (conn_of setup payload x (e ∷ past)) (conn_of setup payload x past) (λ t. same-conn setup payload x (e ∷ past) past t (route-same x t) (lendings-stay e past plain-now x) (lent-now x)
        (end-stays setup payload past e (no-items actor posts) x t (ap (λ o. unwrap_or (option_map (λ (link : LinkId). link.group) (option_map (λ (p : Offered). p.link) o)) 0) (offer-stays e past plain-now B t)))) setup.sockets)
        (ap (λ (ls : List Lending). length ls) (lendings-stay e past plain-now x))
        (same-spare setup payload x (e ∷ past) past (lent-now x));
    posts_are = made-posts;
  }

-- a socket is opened
pub opened : (setup : Setup) (payload : List ℕ) (regions : List Buffer) (stage : Stage) (past : List Entry) (world : IsWorld setup stage past) (actor n s : ℕ) (posts : List Post)
    (played : IsPlayed setup payload (entry-of actor (Open s) Opened posts ∷ past) n) (shaken : IsShaken setup (entry-of actor (Open s) Opened posts ∷ past))
    → IsSet setup payload regions s first_state (proposal_post setup s ∷ []) (entry-of actor (Open s) Opened posts) past
opened setup payload regions stage past world actor n s posts played shaken =
    let m = played.1 in
    opens-socket setup payload regions stage past world actor n s Opened posts (proposal_post setup s ∷ []) played shaken (λ e. not-used (m.reply ∙ e)) first_state
    (by-side (λ x. awaits_confirm (first_state x) ≡ false) refl refl)
    (by-side (λ x. (t : ℕ) (st : EndState) → after_event x t (Open s) Opened st ≡ (if t == s then first_state x else st)) (λ t st. refl) (λ t st. refl)) refl (refl, tt)
  where
    not-used : Opened ≡ NameUsed → ⊥
    not-used e = cc

-- or refused, as a side is not capable
pub not-capable : (setup : Setup) (payload : List ℕ) (regions : List Buffer) (stage : Stage) (past : List Entry) (world : IsWorld setup stage past) (actor n s : ℕ) (lack : Lack) (posts : List Post)
    (played : IsPlayed setup payload (entry-of actor (Open s) (Declined lack) posts ∷ past) n) (shaken : IsShaken setup (entry-of actor (Open s) (Declined lack) posts ∷ past))
    → IsSet setup payload regions s (λ x. HasFallen) [] (entry-of actor (Open s) (Declined lack) posts) past
not-capable setup payload regions stage past world actor n s lack posts played shaken =
    let m = played.1 in
    opens-socket setup payload regions stage past world actor n s (Declined lack) posts [] played shaken (λ e. not-used (m.reply ∙ e)) (λ x. HasFallen) (λ x. refl)
    (by-side (λ x. (t : ℕ) (st : EndState) → after_event x t (Open s) (Declined lack) st ≡ (if t == s then HasFallen else st)) (λ t st. refl) (λ t st. refl)) refl tt
  where
    not-used : Declined lack ≡ NameUsed → ⊥
    not-used e = cc
