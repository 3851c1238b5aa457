-- A world goes on standing for its history as an entry is added.
use Rattle.std.specs.Prelude.{◌≡◌, ◌≤◌, ◌<◌, ℕ, ◌+◌, ◌++◌, nat_le, nat_lt, Bool, true, false, if◌then◌else◌, List, [], ◌∷◌, length, reverse, Option, Some, None, option_to_list, map}
use Rattle.std.specs.List.{All}
use Rattle.std.proofs.Common.{ap, refl, sym, subst, ◌∙◌, arith, length-append}
use Rattle.std.proofs.lemmas.Bool.Decides.{nat_tests}
use Rattle.std.proofs.lemmas.List.{reverse-append, length-reverse}
use Rattle.std.proofs.lemmas.List.Elements.{All-append, All-nil, All-cons}
use Rattle.smc_num.specs.declared.Side.{Side}
use Rattle.smc_num.specs.declared.Side.TheVariants.{A}
use Rattle.smc_num.specs.Names.{up_to}
use Rattle.pipe_model.specs.Fabric.{path_up}
use Rattle.pipe_model.specs.Calls.{Told, Plain, Hands}
use Rattle.pipe_model.specs.Replies.{told}
use Rattle.pipe_model.specs.Lawful.{reply_of, posted}
use Rattle.pipe_model.specs.declared.setup.Setup.{Setup}
use Rattle.pipe_model.specs.declared.entry.Entry.{Entry}
use Rattle.pipe_model.specs.declared.entry.StepFault.{StepFault}
use Rattle.pipe_model.specs.declared.event.Event.{Event}
use Rattle.pipe_model.specs.declared.event.Event.TheVariants.{Open}
use Rattle.pipe_model.specs.declared.reply.Reply.{Reply}
use Rattle.pipe_model.specs.declared.reply.Reply.TheVariants.{Opened}
use Rattle.world_core.specs.declared.host.Host.{Host}
use Rattle.pipe_model.specs.Fits.{Fits}
use Rattle.world_core.specs.Played.{IsPlayed, handed}
use Rattle.world_core.specs.Heard.{told_bytes, all_bytes}
use Rattle.world_core.specs.Steps.{Seen, past, entry_of, refusal, reply_to, stepped, told_by, opened_socket, opening_order}
use Rattle.world_core.specs.declared.moment.Moment.{Moment}
use Rattle.pipe_model.specs.declared.post.Post.{Post}
use Rattle.world_core.specs.Hosts.{AreHostsAfter, IsWorldAfter, IsPlayedBy, paths_after, told_at}
use Rattle.world_core.proofs.TakenMessagesAll.{paths-up}

both-false : (a b : Bool) (x y : StepFault) → (if a then Some x else (if b then Some y else None)) ≡ None → (a ≡ false) × (b ≡ false)
both-false true b x y e = absurd (cc)
both-false false true x y e = absurd (cc)
both-false false false x y e = (refl, refl)

-- a step that isn't refused finds room for its entry and for what it hands out
pub has_room : (w : Seen) (event : Event) → refusal w event ≡ None → (length w.history < w.room.entries) × (length w.heard + handed (told_by w event) ≤ w.room.bytes)
has_room w event e =
    let b : (nat_le w.room.entries (length w.history) ≡ false) × (nat_lt w.room.bytes (length w.heard + handed (told_by w event)) ≡ false) = both-false _ _ _ _ e in
    (grind (arith, nat_tests, b.0), grind (arith, nat_tests, b.1))

-- as many bytes are handed out as an answer counts
pub told-long : (t : Told) → length (told_bytes t) ≡ handed t
told-long (Plain reply) = refl
told-long (Hands bytes) = refl

-- an entry opens one socket at most
one-opened : (event : Event) (reply : Reply) → length (option_to_list (opened_socket event reply)) ≤ 1
one-opened event reply = by (opened_socket event reply)
  where
    by : (o : Option ℕ) → length (option_to_list o) ≤ 1
    by None = omega arith
    by (Some s) = omega arith

pub few-opened : (es : List Entry) → length (opening_order es) ≤ length es
few-opened [] = omega arith
few-opened (e ∷ es) = let f = few-opened es in let o = one-opened e.event e.reply in
    let all : length (opening_order (e ∷ es)) ≡ length (opening_order es) + length (option_to_list (opened_socket e.event e.reply)) = length-append (opening_order es) _ in
    omega (arith, f, o, all)

-- and it is a known one
known-opened : (setup : Setup) (payload : ℕ) (event : Event) (reply : Reply) → Fits setup payload event → All (λ s. s < setup.sockets) (option_to_list (opened_socket event reply))
known-opened setup payload (Open s) Opened b = All-cons (λ x. x < setup.sockets) s [] b (All-nil (λ x. x < setup.sockets))
known-opened setup payload _ _ b = All-nil (λ x. x < setup.sockets)

pub all-known : (setup : Setup) (payload : List ℕ) (es : List Entry) (n : ℕ) → IsPlayed setup payload es n → All (λ s. s < setup.sockets) (opening_order es)
all-known setup payload [] n p = All-nil (λ x. x < setup.sockets)
all-known setup payload (e ∷ es) n p =
    All-append (λ x. x < setup.sockets) (opening_order es) (option_to_list (opened_socket e.event e.reply)) (all-known setup payload es p.0 p.3) (known-opened setup (length payload) e.event e.reply (p.1).built)

-- the paths are up after any played history
pub up-after : (setup : Setup) (payload : List ℕ) (es : List Entry) (n : ℕ) (x : Side) (a b : Host) → AreHostsAfter setup payload es n x a b → paths_after setup es ≡ true ∷ []
up-after setup payload es n x a b h =
    let set = h.set in
    let one = set.one in
    ap (λ k. map (λ j. path_up j es) (up_to k)) one.links ∙ paths-up setup one payload es n h.played

module _ (w : Seen) (a b : Host) (opened : List ℕ) (paths : List Bool) (history_room heard_room opened_room : ℕ) (k : IsWorldAfter w a b opened paths history_room heard_room opened_room) where
  -- the history grows at its front, the newest entry first
  pub past-after : (actor : ℕ) (event : Event) → past (stepped actor event w) ≡ entry_of w.setup w.payload (past w) (length w.heard) actor event ∷ past w
  past-after actor event = reverse-append w.history (entry_of w.setup w.payload (past w) (length w.heard) actor event ∷ [])

  pub opened-fits : length w.history < w.room.entries → length opened < opened_room
  opened-fits less =
      let f : length opened ≤ length w.history = subst (λ n. length opened ≤ n) (length-reverse w.history) (subst (λ (os : List ℕ). length os ≤ length (past w)) (sym k.order) (few-opened (past w))) in
      let o = k.opened_fit in omega (arith, f, less, o)

  pub world-after : (actor : ℕ) (event : Event) → refusal w event ≡ None → (c d : Host) (history_now heard_now opened_now : ℕ)
      → AreHostsAfter w.setup w.payload (entry_of w.setup w.payload (past w) (length w.heard) actor event ∷ past w) (length w.heard + handed (told_by w event)) A c d
      → history_room ≤ history_now → heard_room ≤ heard_now → opened_room ≤ opened_now
      → IsWorldAfter (stepped actor event w) c d (opened ++ option_to_list (opened_socket event (reply_to w event))) paths history_now heard_now opened_now
  world-after actor event room c d history_now heard_now opened_now h hr br or =
      let t = told_by w event in
      let r = has_room w event room in
      let long : length (w.heard ++ told_bytes t) ≡ length w.heard + handed t = length-append w.heard (told_bytes t) ∙ ap (λ n. length w.heard + n) (told-long t) in
      let entries : length (w.history ++ entry_of w.setup w.payload (past w) (length w.heard) actor event ∷ []) ≡ length w.history + 1 = length-append w.history _ in
      let p = past-after actor event in record {
        hosts = subst (λ (es : List Entry). AreHostsAfter w.setup w.payload es (length (w.heard ++ told_bytes t)) A c d) (sym p)
            (subst (λ n. AreHostsAfter w.setup w.payload (entry_of w.setup w.payload (past w) (length w.heard) actor event ∷ past w) n A c d) (sym long) h);
        heard_is = ap (λ (bs : List ℕ). bs ++ told_bytes t) k.heard_is ∙ ap (λ (es : List Entry). all_bytes w.setup w.payload es) (sym p);
        order = ap (λ (os : List ℕ). os ++ option_to_list (opened_socket event (reply_to w event))) k.order ∙ ap (λ (es : List Entry). opening_order es) (sym p);
        paths_are = k.paths_are ∙ (up-after w.setup w.payload (past w) (length w.heard) A a b k.hosts
            ∙ (sym (up-after w.setup w.payload (entry_of w.setup w.payload (past w) (length w.heard) actor event ∷ past w) _ A c d h) ∙ ap (λ (es : List Entry). paths_after w.setup es) (sym p)));
        entries = let l = r.0 in omega (arith, entries, l);
        bytes = let l = r.1 in omega (arith, long, l);
        most_entries = k.most_entries;
        most_bytes = k.most_bytes;
        entries_fit = let f = k.entries_fit in omega (arith, f, hr);
        bytes_fit = let f = k.bytes_fit in omega (arith, f, br);
        opened_fit = let f = k.opened_fit in omega (arith, f, or);
      }

-- a moment is that of a world
pub record IsMoment (m : Moment) (w : Seen) : Type 0 where
  pub setup_is : m.setup.now ≡ w.setup
  pub payload_is : m.payload.now ≡ w.payload
  pub history_is : m.history.now ≡ w.history
  pub heard_is : m.heard ≡ length w.heard

-- what is said of four parts holds of equal ones
moves : {X Y Z : Type 0} (P : X → Y → Z → ℕ → Type 0) (x x2 : X) (y y2 : Y) (z z2 : Z) (n n2 : ℕ) → x ≡ x2 → y ≡ y2 → z ≡ z2 → n ≡ n2 → P x y z n → P x2 y2 z2 n2
moves P x x2 y y2 z z2 n n2 e f g h p = subst (λ a. P x2 y2 z2 a) h (subst (λ a. P x2 y2 a n) g (subst (λ a. P x2 a z n) f (subst (λ a. P a y z n) e p)))

-- the hosts, the reply and the posts of a world's event
pub record IsPlayedIn (w : Seen) (event : Event) (reply : Reply) (posts : List Post) (c d : Host) : Type 0 where
  pub reply_is : reply ≡ reply_to w event
  pub posts_are : posts ≡ posted w.setup w.payload (past w) (length w.heard) event
  pub after : (actor : ℕ) → AreHostsAfter w.setup w.payload (entry_of w.setup w.payload (past w) (length w.heard) actor event ∷ past w) (length w.heard + handed (told_by w event)) A c d

pub played-in : (m : Moment) (w : Seen) (event : Event) (reply : Reply) (posts : List Post) (c d : Host) → IsMoment m w → IsPlayedBy m event reply posts A c d → IsPlayedIn w event reply posts c d
played-in m w event reply posts c d i p = record {
  reply_is = moves (λ s bs (es : List Entry) n. reply ≡ reply_of n (told s bs (reverse es) event)) _ _ _ _ _ _ _ _ i.setup_is i.payload_is i.history_is i.heard_is p.reply_is;
  posts_are = moves (λ s bs (es : List Entry) n. posts ≡ posted s bs (reverse es) n event) _ _ _ _ _ _ _ _ i.setup_is i.payload_is i.history_is i.heard_is p.posts_are;
  after = λ actor. moves (λ s bs (es : List Entry) n. AreHostsAfter s bs (entry_of s bs (reverse es) n actor event ∷ reverse es) (n + handed (told s bs (reverse es) event)) A c d) _ _ _ _ _ _ _ _ i.setup_is i.payload_is i.history_is i.heard_is (p.after actor);
}

-- the bytes that an event hands out at the world's moment
pub told-in : (m : Moment) (w : Seen) (event : Event) → IsMoment m w → told_bytes (told_at m event) ≡ told_bytes (told_by w event)
told-in m w event i = moves (λ s bs (es : List Entry) (n : ℕ). told_bytes (told_at m event) ≡ told_bytes (told s bs (reverse es) event)) _ _ _ _ _ _ _ _ i.setup_is i.payload_is i.history_is i.heard_is refl

-- the entry that was made is the world's next one
pub entry-in : (w : Seen) (actor : ℕ) (event : Event) (reply : Reply) (posts : List Post) (c d : Host) → IsPlayedIn w event reply posts c d
    → record { actor = actor; event = event; reply = reply; posts = posts } ≡ entry_of w.setup w.payload (past w) (length w.heard) actor event
entry-in w actor event reply posts c d p =
    ap (λ (r : Reply). let e : Entry = record { actor = actor; event = event; reply = r; posts = posts } in e) p.reply_is ∙
    ap (λ (ps : List Post). let e : Entry = record { actor = actor; event = event; reply = reply_to w event; posts = ps } in e) p.posts_are

-- a world of these parts
pub world-of-parts : (w : Seen) (history : List Entry) (heard : List ℕ) (new : Seen) (a b : Host) (opened other : List ℕ) (paths : List Bool) (hr br or : ℕ) → history ≡ new.history → heard ≡ new.heard → other ≡ opened
    → new.setup ≡ w.setup → new.payload ≡ w.payload → new.room ≡ w.room
    → IsWorldAfter new a b opened paths hr br or → IsWorldAfter (record w { history = history; heard = heard }) a b other paths hr br or
world-of-parts w history heard new a b opened other paths hr br or e f g s q r k =
    subst (λ (os : List ℕ). IsWorldAfter (record w { history = history; heard = heard }) a b os paths hr br or) (sym g)
    (subst (λ (v : Seen). IsWorldAfter v a b opened paths hr br or)
    (ap (λ (x : List Entry). let v : Seen = record new { history = x } in v) (sym e) ∙ (ap (λ (x : List ℕ). let v : Seen = record new { history = history; heard = x } in v) (sym f)
    ∙ (ap (λ x. let v : Seen = record new { history = history; heard = heard; setup = x } in v) s ∙ (ap (λ (x : List ℕ). let v : Seen = record new { history = history; heard = heard; setup = w.setup; payload = x } in v) q
    ∙ ap (λ x. let v : Seen = record new { history = history; heard = heard; setup = w.setup; payload = w.payload; room = x } in v) r)))) k)
