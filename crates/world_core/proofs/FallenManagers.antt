-- An end leaves its handshake before its side has lent: its state changes in the manager of its side, and nothing else.
use Rattle.std.specs.Option.{option_or}
use Rattle.smc_num.specs.declared.LinkId.{LinkId}
use Rattle.world_core.specs.Wired.{EachItem, keeps_open}
use Rattle.std.proofs.Common.{◌≡◌, ◌∙◌, ℕ, ◌<◌, ◌==◌, ◌||◌, not, Bool, true, false, cond, if◌then◌else◌, List, [], ◌∷◌, ◌++◌, length, filter, refl, ap, sym, subst, eq-eqb, append-nil}
use Rattle.std.specs.Prelude.{Some, None, option_map, unwrap_or, slice_set, is_some, option_and_then}
use Rattle.std.specs.List.{find}
use Rattle.smc_num.specs.declared.Side.{Side}
use Rattle.smc_num.specs.declared.Side.TheVariants.{A, B}
use Rattle.smc_num.specs.Names.{other}
use Rattle.rmb_region.specs.Regions.{Buffer}
use Rattle.pipe_model.specs.declared.setup.Setup.{Setup}
use Rattle.pipe_model.specs.declared.event.Event.TheVariants.{Clc}
use Rattle.pipe_model.specs.declared.reply.Reply.{Reply}
use Rattle.pipe_model.specs.declared.post.Post.{Post}
use Rattle.pipe_model.specs.declared.entry.Entry.{Entry}
use Rattle.pipe_model.specs.History.{Offered, offered}
use Rattle.pipe_model.specs.Fabric.{fabric, act_in, act_by, group_of, peer, Act}
use Rattle.pipe_model.specs.Ends.{Half}
use Rattle.pipe_model.specs.Connections.{EndState, HasFallen, IsUp, is_up, early_state, end_state, after_event, after_loss, group_on, up_by, items, part, confirmed_by}
use Rattle.pipe_model.specs.Keys.{book_of, book_clc}
use Rattle.pipe_model.specs.Lending.{Lending, lendings, lent, returns, leaves_handshake, free_places}
use Rattle.pipe_model.specs.Fallback.{is_raw}
use Rattle.pipe_model.specs.Posts.{connection_posts}
use Rattle.pipe_model.specs.Lawful.{asked}
use Rattle.clc_handshake.specs.Stages.{Hand}
use Rattle.side_core.specs.Records.{Connection}
use Rattle.side_core.specs.Manager.{with_hand, hand_at, no_hand}
use Rattle.world_core.specs.OneLink.{Stage}
use Rattle.world_core.specs.Sockets.{IsWorld}
use Rattle.world_core.specs.Played.{IsPlayed}
use Rattle.world_core.specs.Agreement.{IsShaken}
use Rattle.world_core.specs.Managers.{manager_of, desk_of, hand_of, conn_of, end_of, route_of, each_socket, lending_on, keeps_element, HasLendings}
use Rattle.world_core.proofs.QuietEvents.{by-side, entry-of}
use Rattle.world_core.proofs.QuietEntries.{only-deeds, same-group}
use Rattle.world_core.proofs.Parts.{part-open}
use Rattle.world_core.proofs.PlainPosts.{ArePlain, offer-stays, lends-none, lendings-stay, plain-route}
use Rattle.world_core.proofs.StillEntries.{silent-pipes, end-stays, lent-stays, returns-by, still-desk}
use Rattle.world_core.proofs.SameManagers.{SameDesk, SameRoute, same-desk, same-conn, same-spare, hand-same}
use Rattle.world_core.proofs.KeptManagers.{by-parts}
use Rattle.world_core.proofs.Lendings.{no-lending-due, lendings-kept}
use Rattle.world_core.proofs.Tables.{same-sockets, set-socket, at-socket}
use Rattle.world_core.proofs.Plain.{at-or-beside}

-- what becomes of both managers, and what is posted, as an end falls back
pub record IsFallen (setup : Setup) (payload : List ℕ) (regions : List Buffer) (x : Side) (s : ℕ) (posts : List Post) (e : Entry) (past : List Entry) : Type 0 where
  pub own : manager_of setup payload regions x (e ∷ past) ≡ with_hand s (record (hand_at s (manager_of setup payload regions x past)) { state = HasFallen }) (manager_of setup payload regions x past)
  pub theirs : manager_of setup payload regions (other x) (e ∷ past) ≡ manager_of setup payload regions (other x) past
  pub posts_are : e.posts ≡ posts
  pub lendings_are : HasLendings setup payload (e ∷ past)

-- where a socket has no lending, none of it ends
pub none-ends : (s : ℕ) (f : Lending → Bool) → ((l : Lending) → (l.s == s) ≡ false → f l ≡ true) → (ls : List Lending) → lending_on s ls ≡ None → filter f ls ≡ ls
none-ends s f keeps [] e = refl
none-ends s f keeps (l ∷ ls) e = by (l.s == s) refl e (λ rest. none-ends s f keeps ls rest)
  where
    by : (b : Bool) → (l.s == s) ≡ b → cond b (Some l) (find (λ l. l.s == s) ls) ≡ None → (lending_on s ls ≡ None → filter f ls ≡ ls) → filter f (l ∷ ls) ≡ l ∷ ls
    by true i e rest = cc
    by false i e rest = ap (λ b. cond b (l ∷ filter f ls) (filter f ls)) (keeps l i) ∙ ap (λ (ks : List Lending). l ∷ ks) (rest e)

module _ (setup : Setup) (payload : List ℕ) (regions : List Buffer) (stage : Stage) (past : List Entry) (world : IsWorld setup stage past) (lendings_are : HasLendings setup payload past) (actor n s : ℕ) (x : Side) (reply : Reply) (posts front : List Post)
    (played : IsPlayed setup payload (entry-of actor (Clc s (other x)) reply posts ∷ past) n) (shaken : IsShaken setup (entry-of actor (Clc s (other x)) reply posts ∷ past)) (known : s < setup.sockets)
    (nothing : offered x s past ≡ None) (down : is_up x s past ≡ false) (waited : keeps_element (end_state x s past) ≡ false)
    (still : (q : Entry) → q.event ≡ Clc s (other x) → q.reply ≡ reply → fabric (q ∷ past) ≡ fabric past) (up_none : (y : Side) (t : ℕ) → up_by y t (Clc s (other x)) reply past ≡ None)
    (after : (t : ℕ) (st : EndState) → after_event x t (Clc s (other x)) reply st ≡ (if t == s then HasFallen else st)) (after_theirs : (t : ℕ) (st : EndState) → after_event (other x) t (Clc s (other x)) reply st ≡ st)
    (leaves : (t : ℕ) → (t == s) ≡ false → leaves_handshake x t (Clc s (other x)) reply ≡ false) (leaves_theirs : (t : ℕ) → leaves_handshake (other x) t (Clc s (other x)) reply ≡ false)
    (no_book : (y : Side) → book_clc y (Clc s (other x)) reply past (book_of y past) ≡ book_of y past) (asked_is : asked setup payload past (Clc s (other x)) reply ≡ front) (plain : ArePlain front) where
  abbrev e : Entry
  e = entry-of actor (Clc s (other x)) reply posts

  acts : (q : Entry) → q.event ≡ Clc s (other x) → (y : Side) → act_in y q past ≡ None
  acts q is = by-side (λ y. act_in y q past ≡ None) (ap (λ v. act_by A v q.reply past) is) (ap (λ v. act_by B v q.reply past) is)

  no-items : (a : ℕ) (ps : List Post) (g t : ℕ) → items payload g t (entry-of a (Clc s (other x)) reply ps) past ≡ []
  no-items a ps g t = only-deeds payload stage (entry-of a (Clc s (other x)) reply ps) past (let l = world.link in l.fabric_is) (still (entry-of a (Clc s (other x)) reply ps) refl refl)
      (acts (entry-of a (Clc s (other x)) reply ps) refl) up_none g t

  made-posts : posts ≡ front
  made-posts =
      let m = played.1 in
      m.posts
      ∙ (ap (λ r. let q : Entry = record { actor = 0; event = Clc s (other x); reply = r; posts = asked setup payload past (Clc s (other x)) r } in q.posts ++ connection_posts setup payload q past) (sym m.reply)
      ∙ (ap (λ (ps : List Post). asked setup payload past (Clc s (other x)) reply ++ ps) (silent-pipes setup payload past (entry-of 0 (Clc s (other x)) reply (asked setup payload past (Clc s (other x)) reply)) (no-items 0 (asked setup payload past (Clc s (other x)) reply)))
      ∙ (append-nil (asked setup payload past (Clc s (other x)) reply) ∙ asked_is)))

  plain-now : ArePlain posts
  plain-now = subst (λ (ps : List Post). ArePlain ps) (sym made-posts) plain

  now : fabric (e ∷ past) ≡ fabric past
  now = still e refl refl

  group-now : (y : Side) → group_of y (e ∷ past) ≡ group_of y past
  group-now y = ap (λ f. (peer y f).group) now

  open-now : (g t : ℕ) → EachItem keeps_open (part payload g t (e ∷ past))
  open-now g t = part-open setup payload g t (e ∷ past) n played shaken

  no-lending : lending_on s (lent setup payload x past) ≡ None
  no-lending = lendings_are.each x s ∙ no-lending-due x s past nothing

  lent-own : lent setup payload x (e ∷ past) ≡ lent setup payload x past
  lent-own =
      ap (λ (ls : List Lending). ls ++ filter (λ l. not (returns setup payload x e past l)) (lent setup payload x past)) (lends-none e past plain-now x)
      ∙ none-ends s (λ l. not (returns setup payload x e past l)) (λ l d. ap (λ b. not b) (returns-by setup payload x e past (group-now x) open-now l ∙ leaves l.s d)) (lent setup payload x past) no-lending

  lent-theirs : lent setup payload (other x) (e ∷ past) ≡ lent setup payload (other x) past
  lent-theirs = lent-stays setup payload (other x) e past (group-now (other x)) open-now (lends-none e past plain-now (other x)) leaves_theirs

  desk-own : SameDesk setup payload x (e ∷ past) past
  desk-own = still-desk setup payload stage x e past world.link now (acts e refl x) plain-now (no_book x) lent-own

  desk-theirs : SameDesk setup payload (other x) (e ∷ past) past
  desk-theirs = still-desk setup payload stage (other x) e past world.link now (acts e refl (other x)) plain-now (no_book (other x)) lent-theirs

  up-same : (y : Side) (t : ℕ) → is_up y t (e ∷ past) ≡ is_up y t past
  up-same y t =
      ap (λ o. is_some (option_or o (option_and_then (λ (act : Act). confirmed_by (offered B t past) act.link act.step) (act_in y e past))) || is_up y t past) (up_none y t)
      ∙ ap (λ a. is_some (option_and_then (λ (act : Act). confirmed_by (offered B t past) act.link act.step) a) || is_up y t past) (acts e refl y)

  early-by : (y : Side) (t : ℕ) → early_state y t (e ∷ past) ≡ after_event y t (Clc s (other x)) reply (early_state y t past)
  early-by y t = ap (λ b. after_loss b (group_on t past) (after_event y t (Clc s (other x)) reply (early_state y t past))) (same-group (group_on t past) (group_of y past) (group_of y (e ∷ past)) (group-now y))

  state-else : (t : ℕ) → (t == s) ≡ false → end_state x t (e ∷ past) ≡ end_state x t past
  state-else t d =
      ap (λ b. if b then IsUp else early_state x t (e ∷ past)) (up-same x t)
      ∙ ap (λ a. if is_up x t past then IsUp else a) (early-by x t ∙ (after t (early_state x t past) ∙ ap (λ b. if b then HasFallen else early_state x t past) d))

  state-theirs : (t : ℕ) → end_state (other x) t (e ∷ past) ≡ end_state (other x) t past
  state-theirs t =
      ap (λ b. if b then IsUp else early_state (other x) t (e ∷ past)) (up-same (other x) t)
      ∙ ap (λ a. if is_up (other x) t past then IsUp else a) (early-by (other x) t ∙ after_theirs t (early_state (other x) t past))

  state-here : end_state x s (e ∷ past) ≡ HasFallen
  state-here =
      ap (λ b. if b then IsUp else early_state x s (e ∷ past)) (up-same x s ∙ down)
      ∙ (early-by x s ∙ (after s (early_state x s past) ∙ ap (λ b. if b then HasFallen else early_state x s past) (eq-eqb s s refl)))

  route-by : (y : Side) (t : ℕ) → end_state y t (e ∷ past) ≡ end_state y t past → SameRoute y (e ∷ past) past t
  route-by y t same = plain-route e past plain-now y t (up-same y t) same

  group-on-same : (t : ℕ) → group_on t (e ∷ past) ≡ group_on t past
  group-on-same t = ap (λ o. unwrap_or (option_map (λ (link : LinkId). link.group) (option_map (λ (p : Offered). p.link) o)) 0) (offer-stays e past plain-now B t)

  end-same : (y : Side) (t : ℕ) → end_of setup payload y t (e ∷ past) ≡ end_of setup payload y t past
  end-same y t = end-stays setup payload past e (no-items actor posts) y t (group-on-same t)

  no-conn : (h : List Entry) → lending_on s (lent setup payload x h) ≡ None → conn_of setup payload x h s ≡ None
  no-conn h none = ap (λ o. option_map (λ l. let k : Connection Half = record { route = route_of x s h l; end = end_of setup payload x s h } in k) o) none

  conn-own : (t : ℕ) → conn_of setup payload x (e ∷ past) t ≡ conn_of setup payload x past t
  conn-own =
      at-or-beside (λ k. conn_of setup payload x (e ∷ past) k ≡ conn_of setup payload x past k) s
      (no-conn (e ∷ past) (ap (λ (ls : List Lending). lending_on s ls) lent-own ∙ no-lending) ∙ sym (no-conn past no-lending))
      (λ t d. same-conn setup payload x (e ∷ past) past t (route-by x t (state-else t d)) (lendings-stay e past plain-now x) lent-own (end-same x t))

  conn-theirs : (t : ℕ) → conn_of setup payload (other x) (e ∷ past) t ≡ conn_of setup payload (other x) past t
  conn-theirs t = same-conn setup payload (other x) (e ∷ past) past t (route-by (other x) t (state-theirs t)) (lendings-stay e past plain-now (other x)) lent-theirs (end-same (other x) t)

  hand-here : hand_of x (e ∷ past) s ≡ record (hand_at s (manager_of setup payload regions x past)) { state = HasFallen }
  hand-here =
      ap (λ a. let h : Hand = record { raw = is_raw s past; state = a } in h) state-here
      ∙ ap (λ (h : Hand). let k : Hand = record h { state = HasFallen } in k) (sym (at-socket (hand_of x past) setup.sockets s no_hand known))

  -- who keeps an element
  keeps-same : (y : Side) (t : ℕ) → keeps_element (end_state y t (e ∷ past)) ≡ keeps_element (end_state y t past)
  keeps-same = sides x own theirs
    where
      own : (t : ℕ) → keeps_element (end_state x t (e ∷ past)) ≡ keeps_element (end_state x t past)
      own =
          at-or-beside (λ k. keeps_element (end_state x k (e ∷ past)) ≡ keeps_element (end_state x k past)) s
          (ap (λ st. keeps_element st) state-here ∙ sym waited)
          (λ t d. ap (λ st. keeps_element st) (state-else t d))

      theirs : (t : ℕ) → keeps_element (end_state (other x) t (e ∷ past)) ≡ keeps_element (end_state (other x) t past)
      theirs t = ap (λ st. keeps_element st) (state-theirs t)

      sides : (z : Side) → ((t : ℕ) → keeps_element (end_state z t (e ∷ past)) ≡ keeps_element (end_state z t past)) → ((t : ℕ) → keeps_element (end_state (other z) t (e ∷ past)) ≡ keeps_element (end_state (other z) t past))
          → (y : Side) (t : ℕ) → keeps_element (end_state y t (e ∷ past)) ≡ keeps_element (end_state y t past)
      sides A f g A = f
      sides A f g B = g
      sides B f g A = g
      sides B f g B = f

  both-lent : (y : Side) → lent setup payload y (e ∷ past) ≡ lent setup payload y past
  both-lent = sides x lent-own lent-theirs
    where
      sides : (z : Side) → lent setup payload z (e ∷ past) ≡ lent setup payload z past → lent setup payload (other z) (e ∷ past) ≡ lent setup payload (other z) past → (y : Side) → lent setup payload y (e ∷ past) ≡ lent setup payload y past
      sides A f g A = f
      sides A f g B = g
      sides B f g A = g
      sides B f g B = f

  pub falls : IsFallen setup payload regions x s front e past
  falls = record {
    own = by-parts setup payload regions x (e ∷ past) (desk_of setup payload x past)
        (slice_set (each_socket (hand_of x past) setup.sockets) s (record (hand_at s (manager_of setup payload regions x past)) { state = HasFallen }))
        (each_socket (conn_of setup payload x past) setup.sockets) (length (lendings x past)) (length (free_places setup payload x past))
        (same-desk setup payload x (e ∷ past) past desk-own)
        (sym (set-socket (hand_of x past) (hand_of x (e ∷ past)) setup.sockets s (λ t d. hand-same x (e ∷ past) past t refl (state-else t d))) ∙ ap (λ h. slice_set (each_socket (hand_of x past) setup.sockets) s h) hand-here)
        (same-sockets (conn_of setup payload x (e ∷ past)) (conn_of setup payload x past) conn-own setup.sockets)
        (ap (λ (ls : List Lending). length ls) (lendings-stay e past plain-now x)) (same-spare setup payload x (e ∷ past) past lent-own);
    theirs = by-parts setup payload regions (other x) (e ∷ past) (desk_of setup payload (other x) past) (each_socket (hand_of (other x) past) setup.sockets)
        (each_socket (conn_of setup payload (other x) past) setup.sockets) (length (lendings (other x) past)) (length (free_places setup payload (other x) past))
        (same-desk setup payload (other x) (e ∷ past) past desk-theirs)
        (same-sockets (hand_of (other x) (e ∷ past)) (hand_of (other x) past) (λ t. hand-same (other x) (e ∷ past) past t refl (state-theirs t)) setup.sockets)
        (same-sockets (conn_of setup payload (other x) (e ∷ past)) (conn_of setup payload (other x) past) conn-theirs setup.sockets)
        (ap (λ (ls : List Lending). length ls) (lendings-stay e past plain-now (other x))) (same-spare setup payload (other x) (e ∷ past) past lent-theirs);
    posts_are = made-posts;
    lendings_are = lendings-kept setup payload e past lendings_are both-lent (offer-stays e past plain-now) keeps-same;
  }
