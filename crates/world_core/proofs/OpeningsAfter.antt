-- What the opening of a socket makes of both hosts: nothing where it was opened before, or its ends begin their handshakes, or fall back.
use Rattle.std.proofs.Common.{true≢false, ◌≡◌, ◌∙◌, ℕ, ◌+◌, ◌<◌, ◌^◌, ◌&&◌, ◌||◌, not, Bool, true, false, if◌then◌else◌, List, [], ◌∷◌, ◌++◌, length, slice_index_or, refl, ap, sym, subst}
use Rattle.smc_num.specs.declared.Side.{Side}
use Rattle.smc_num.specs.declared.Side.TheVariants.{A, B}
use Rattle.rmb_region.specs.Regions.{Buffer}
use Rattle.pipe_model.specs.declared.setup.Setup.{Setup}
use Rattle.pipe_model.specs.declared.entry.Entry.{Entry}
use Rattle.pipe_model.specs.declared.event.Event.TheVariants.{Open}
use Rattle.pipe_model.specs.declared.reply.Reply.{Reply}
use Rattle.pipe_model.specs.declared.reply.Reply.TheVariants.{NameUsed, Declined, Opened}
use Rattle.pipe_model.specs.declared.reply.Lack.TheVariants.{NotCapable}
use Rattle.pipe_model.specs.declared.post.Post.{Post}
use Rattle.pipe_model.specs.History.{next_number}
use Rattle.pipe_model.specs.Ends.{Half}
use Rattle.pipe_model.specs.Connections.{NoEnd, HasFallen, end_state}
use Rattle.pipe_model.specs.Fallback.{is_raw, is_opened, written}
use Rattle.pipe_model.specs.Posts.{proposal_post}
use Rattle.pipe_model.specs.Replies.{open_told}
use Rattle.pipe_model.specs.Lawful.{posted}
use Rattle.conn_end.specs.Kept.{Kept}
use Rattle.clc_handshake.specs.Stages.{first_state}
use Rattle.rc_link.specs.Wire.{Queues}
use Rattle.side_core.specs.Desk.{Desk}
use Rattle.side_core.specs.Landing.{falls_at, opens_at, opening_posts}
use Rattle.side_core.specs.Manager.{Manager, Represents, state_at}
use Rattle.world_core.specs.declared.host.Host.{Host}
use Rattle.world_core.specs.Played.{IsPlayed}
use Rattle.world_core.specs.Landed.{buffer_of}
use Rattle.world_core.specs.Sockets.{Socket, Unopened, Fallen, Proposed, Refused, FirstAccepted, FirstConfirmed, AwaitsLink, FirstUpAtA, FirstUp, Accepted, AcceptRefused, AcceptFallen, Confirmed, Up, HasSocket, HasWorld, opened_at, end_at}
use Rattle.world_core.specs.Managers.{manager_of}
use Rattle.world_core.specs.Sending.{carried_from, moved, puts_all}
use Rattle.world_core.specs.Handing.{has_end}
use Rattle.world_core.specs.Steps.{entry_of}
use Rattle.world_core.specs.Hosts.{AreHostsAfter, IsHostAfter, with_posts, wire_at}
use Rattle.world_core.specs.OneLink.{the_link}
use Rattle.world_core.specs.WireSteps.{landing_now}
use Rattle.world_core.specs.Agreement.{IsShaken}
use Rattle.world_core.proofs.QuietEvents.{entry-of, by-side}
use Rattle.world_core.proofs.QuietManagers.{open-refused}
use Rattle.world_core.proofs.OpenManagers.{IsSet, opened, not-capable}
use Rattle.world_core.proofs.CallEntries.{IsNothing}
use Rattle.world_core.proofs.PlayedWorlds.{played}
use Rattle.world_core.proofs.Handshaken.{shaken}
use Rattle.world_core.proofs.Lendings.{lent-to-up}
use Rattle.world_core.proofs.TakenMessages.{end-is}
use Rattle.world_core.proofs.EndRecords.{state-is}
use Rattle.world_core.proofs.HostsAfter.{if-none, hosts-after}
use Rattle.world_core.proofs.HostsOn.{PlaysBy, own-sent, own-kept, theirs-then, turned, stood}
use Rattle.world_core.proofs.AllLendings.{has-lendings}
use Rattle.world_core.proofs.StreamsAfter.{Flowing, their-flows}

-- a socket has an end at the client just where it was opened
end-there : (k : Socket) → has_end (end_at k A) ≡ opened_at k
end-there Unopened = refl
end-there Fallen = refl
end-there Proposed = refl
end-there (Refused r) = refl
end-there (FirstAccepted o) = refl
end-there (FirstConfirmed o p) = refl
end-there (AwaitsLink o p) = refl
end-there (FirstUpAtA o p) = refl
end-there (FirstUp o p) = refl
end-there (Accepted o) = refl
end-there (AcceptRefused o r) = refl
end-there (AcceptFallen o) = refl
end-there (Confirmed o p) = refl
end-there (Up o p) = refl

none-there : (k : Socket) → opened_at k ≡ false → (x : Side) → end_at k x ≡ NoEnd
none-there Unopened e = by-side (λ x. end_at Unopened x ≡ NoEnd) refl refl
none-there _ e = absurd (true≢false e)

-- what an opening is told, by what was opened and who is capable
abbrev Told : Bool → Bool → Bool → Bool → Reply
Told opened raw a b = if opened || raw then NameUsed else if not (a && b) then Declined (NotCapable a b) else Opened

module _ (setup : Setup) (payload : List ℕ) (past : List Entry) (heard s : ℕ) (client server : Host) (before : AreHostsAfter setup payload past heard A client server) (few : length past < 2 ^ 18) (known : s < setup.sockets) where
  abbrev a-is : Bool
  a-is = slice_index_or setup.capable 0 false

  abbrev b-is : Bool
  b-is = slice_index_or setup.capable 1 false

  world : HasWorld setup past
  world = let set = before.set in played setup set.one payload past heard before.played

  place : HasSocket setup world.stage s past
  place = let w = world.world in w.sockets s

  opened-is : is_opened s past ≡ opened_at place.at
  opened-is = let st = place.stands in st.opened

  raw-is : is_raw s past ≡ false
  raw-is = let st = place.stands in st.raw

  client-is : state_at s client.core ≡ end_state A s past
  client-is = let own = before.own in state-is setup payload (buffer_of setup payload A 1 past ∷ []) A past client.core own.side s known

  server-is : state_at s server.core ≡ end_state B s past
  server-is = let theirs = before.theirs in state-is setup payload (buffer_of setup payload B 1 past ∷ []) B past server.core theirs.side s known

  there-is : has_end (state_at s client.core) ≡ is_opened s past
  there-is = ap has_end (client-is ∙ end-is setup place.at s past place.stands A) ∙ (end-there place.at ∙ sym opened-is)

  pub socket-at-client : s < length client.core.hands
  socket-at-client = let own = before.own in stood setup payload (buffer_of setup payload A 1 past ∷ []) A past client.core own.side s known

  pub socket-at-server : s < length server.core.hands
  socket-at-server = let theirs = before.theirs in stood setup payload (buffer_of setup payload B 1 past ∷ []) B past server.core theirs.side s known

  module _ (new : has_end (state_at s client.core) ≡ false) where
    unopened : is_opened s past ≡ false
    unopened = sym there-is ∙ new

    none-before : (x : Side) → end_state x s past ≡ NoEnd
    none-before x = end-is setup place.at s past place.stands x ∙ none-there place.at (sym opened-is ∙ unopened) x

    pub none-at-server : state_at s server.core ≡ NoEnd
    none-at-server = server-is ∙ none-before B

    told-new : (b : Bool) → (a-is && b-is) ≡ b → open_told setup s past ≡ (if not b then Declined (NotCapable a-is b-is) else Opened)
    told-new b e = ap (λ o. Told o (is_raw s past) a-is b-is) unopened ∙ (ap (λ r. Told false r a-is b-is) raw-is ∙ ap (λ c. if not c then Declined (NotCapable a-is b-is) else Opened) e)

  told-used : has_end (state_at s client.core) ≡ true → open_told setup s past ≡ NameUsed
  told-used used = ap (λ o. Told o (is_raw s past) a-is b-is) (sym there-is ∙ used)

  -- what holds of each opening
  lands-none : (y : Side) (reply : Reply) (posts : List Post) (actor : ℕ) → landing_now the_link y (entry-of actor (Open s) reply posts) past ≡ 0
  lands-none y reply posts actor = if-none past

  unmoved-by : (y : Side) (w : Queues) → moved y (Open s) w ≡ w
  unmoved-by y w = refl

  silent-by : (t : ℕ) (reply : Reply) → written payload A t (Open s) reply past ≡ []
  silent-by t reply = refl

  plays : (actor : ℕ) (reply : Reply) → open_told setup s past ≡ reply → IsPlayed setup payload (entry-of actor (Open s) reply (posted setup payload past heard (Open s)) ∷ past) (heard + 0)
  plays actor reply e = (heard, record { built = known; reply = sym e; posts = refl }, refl, before.played)

  shakes : (actor : ℕ) (reply : Reply) → open_told setup s past ≡ reply → IsShaken setup (entry-of actor (Open s) reply (posted setup payload past heard (Open s)) ∷ past)
  shakes actor reply e = let set = before.set in shaken setup set.one payload (entry-of actor (Open s) reply (posted setup payload past heard (Open s)) ∷ past) (heard + 0) (plays actor reply e)

  same-entry : (actor : ℕ) (reply : Reply) → open_told setup s past ≡ reply → entry-of actor (Open s) reply (posted setup payload past heard (Open s)) ≡ entry_of setup payload past heard actor (Open s)
  same-entry actor reply e = sym (turned setup payload past heard actor (Open s) reply e)

  -- the server's streams
  server-flows : (actor : ℕ) → Flowing payload setup.sockets B (entry_of setup payload past heard actor (Open s) ∷ past) server.flows.items
  server-flows actor =
      let set = before.set in
      let theirs = before.theirs in
      their-flows setup set.one payload (entry_of setup payload past heard actor (Open s)) past (heard + 0) (heard, record { built = known; reply = refl; posts = refl }, refl, before.played) B refl server.flows.items (λ t. refl) (λ t. refl) theirs.flows

  -- a host at a side, whose manager stands for that of the history with the entry
  server-then : (actor : ℕ) (l : Host) → Represents l.core (manager_of setup payload (buffer_of setup payload B 1 past ∷ []) B (entry_of setup payload past heard actor (Open s) ∷ past))
      → (wire_at 1 l) ≡ (wire_at 1 server) → l.flows.items ≡ server.flows.items → IsHostAfter setup payload B (entry_of setup payload past heard actor (Open s) ∷ past) l
  server-then actor l st wire flows =
      let theirs = before.theirs in
      theirs-then setup payload past heard (Open s) client server before few known lands-none unmoved-by silent-by actor l st wire (ap length flows ∙ theirs.sockets)
      (subst (λ fs. Flowing payload setup.sockets B (entry_of setup payload past heard actor (Open s) ∷ past) fs) (sym flows) (server-flows actor))

  -- a socket that was opened before
  pub used-before : has_end (state_at s client.core) ≡ true → (posts : List Post) → posts ≡ [] → PlaysBy setup payload past heard (Open s) NameUsed posts A client server
  used-before used posts none =
      let told-is = told-used used in
      let set = before.set in
      let own = before.own in
      let theirs = before.theirs in
      let nothing = λ (regions : List Buffer) (actor : ℕ). subst (λ (q : Entry). IsNothing setup payload regions q past) (same-entry actor NameUsed told-is)
      (open-refused setup payload regions world.stage past world.world (lent-to-up setup payload world.stage past world.world (has-lendings setup set.one payload past heard before.played)) actor (heard + 0) (posted setup payload past heard (Open s)) s (plays actor NameUsed told-is, shakes actor NameUsed told-is)) in
      record {
        reply_is = sym told-is;
        posts_are = none ∙ sym (let q = nothing [] 0 in q.posts);
        after = λ actor.
            let of-a = nothing (buffer_of setup payload A 1 past ∷ []) actor in
            let of-b = nothing (buffer_of setup payload B 1 past ∷ []) actor in
            hosts-after setup payload before.set past heard before.played (Open s) known actor few A client server
            (own-kept setup payload past heard (Open s) client server before few known lands-none unmoved-by silent-by actor client (subst (λ (m : Manager Half). Represents client.core m) (sym (of-a.kept A)) own.side) of-a.posts refl refl)
            (server-then actor server (subst (λ (m : Manager Half). Represents server.core m) (sym (of-b.kept B)) theirs.side) refl refl);
      }

  -- a side is not capable
  pub fallen-back : has_end (state_at s client.core) ≡ false → (a-is && b-is) ≡ false → (posts : List Post) → posts ≡ [] → (g l : Host)
      → ((m : Manager Half) → Represents client.core m → Represents g.core (falls_at s m)) → (wire_at 1 g) ≡ (wire_at 1 client) → g.flows.items ≡ client.flows.items
      → ((m : Manager Half) → Represents server.core m → Represents l.core (falls_at s m)) → (wire_at 1 l) ≡ (wire_at 1 server) → l.flows.items ≡ server.flows.items
      → PlaysBy setup payload past heard (Open s) (Declined (NotCapable a-is b-is)) posts A g l
  fallen-back new lacks posts none g l falls wire flows falls-too wire-too flows-too =
      let told-is : open_told setup s past ≡ Declined (NotCapable a-is b-is) = told-new new false lacks in
      let own = before.own in
      let theirs = before.theirs in
      let set-so = λ (regions : List Buffer) (actor : ℕ). subst (λ (q : Entry). IsSet setup payload regions s (λ x. HasFallen) [] q past) (same-entry actor (Declined (NotCapable a-is b-is)) told-is)
      (not-capable setup payload regions world.stage past world.world actor (heard + 0) s (NotCapable a-is b-is) (posted setup payload past heard (Open s)) (plays actor (Declined (NotCapable a-is b-is)) told-is) (shakes actor (Declined (NotCapable a-is b-is)) told-is)) in
      record {
        reply_is = sym told-is;
        posts_are = none ∙ sym (let q = set-so [] 0 in q.posts_are);
        after = λ actor.
            let of-a = set-so (buffer_of setup payload A 1 past ∷ []) actor in
            let of-b = set-so (buffer_of setup payload B 1 past ∷ []) actor in
            hosts-after setup payload before.set past heard before.played (Open s) known actor few A g l
            (own-kept setup payload past heard (Open s) client server before few known lands-none unmoved-by silent-by actor g (subst (λ (m : Manager Half). Represents g.core m) (sym (of-a.both A)) (falls _ own.side)) of-a.posts_are wire flows)
            (server-then actor l (subst (λ (m : Manager Half). Represents l.core m) (sym (of-b.both B)) (falls-too _ theirs.side)) wire-too flows-too);
      }

  -- the posts of the client's opening
  pub proposes : (posts : List Post) → posts ≡ (([] ++ opening_posts s client.core.desk) ++ opening_posts s server.core.desk) → posts ≡ proposal_post setup s ∷ []
  proposes posts is =
      let own = before.own in
      let theirs = before.theirs in
      let a = own.side in
      let b = theirs.side in
      let c = a.works in
      let d = b.works in
      is ∙ (ap (λ (k : Desk). ([] ++ opening_posts s k) ++ opening_posts s server.core.desk) c.desk ∙ ap (λ (k : Desk). ([] ++ (proposal_post setup s ∷ [])) ++ opening_posts s k) d.desk)

  -- the handshake begins
  pub begun : has_end (state_at s client.core) ≡ false → (a-is && b-is) ≡ true → (posts : List Post) → posts ≡ (([] ++ opening_posts s client.core.desk) ++ opening_posts s server.core.desk) → (number : ℕ) → number ≡ next_number past → (v : Manager Kept) (g l : Host)
      → ((m : Manager Half) → Represents client.core m → Represents v (opens_at s false m)) → g.core ≡ v → ((m : Manager Half) → Represents v m → (wire_at 1 g) ≡ with_posts (carried_from m number 1 posts) (wire_at 1 client)) → g.flows.items ≡ puts_all posts client.flows.items
      → ((m : Manager Half) → Represents server.core m → Represents l.core (opens_at s false m)) → (wire_at 1 l) ≡ (wire_at 1 server) → l.flows.items ≡ server.flows.items
      → PlaysBy setup payload past heard (Open s) Opened posts A g l
  begun new able posts posts-are number n v g l opens core wire flows opens-too wire-too flows-too =
      let told-is : open_told setup s past ≡ Opened = told-new new true able in
      let own = before.own in
      let theirs = before.theirs in
      let set-so = λ (regions : List Buffer) (actor : ℕ). subst (λ (q : Entry). IsSet setup payload regions s first_state (proposal_post setup s ∷ []) q past) (same-entry actor Opened told-is)
      (opened setup payload regions world.stage past world.world actor (heard + 0) s (posted setup payload past heard (Open s)) (plays actor Opened told-is) (shakes actor Opened told-is)) in
      let posts-so : posts ≡ posted setup payload past heard (Open s) = proposes posts posts-are ∙ sym (let q = set-so [] 0 in q.posts_are) in
      record {
        reply_is = sym told-is;
        posts_are = posts-so;
        after = λ actor.
            let of-a = set-so (buffer_of setup payload A 1 past ∷ []) actor in
            let of-b = set-so (buffer_of setup payload B 1 past ∷ []) actor in
            hosts-after setup payload before.set past heard before.played (Open s) known actor few A g l
            (own-sent setup payload past heard (Open s) client server before few known lands-none unmoved-by silent-by actor g (subst (λ (m : Manager Half). Represents g.core m) (sym (of-a.both A)) (subst (λ w. Represents w (opens_at s false (manager_of setup payload (buffer_of setup payload A 1 past ∷ []) A past))) (sym core) (opens _ own.side))) posts posts-so number n
            (λ m st. wire m (subst (λ w. Represents w m) core st)) flows)
            (server-then actor l (subst (λ (m : Manager Half). Represents l.core m) (sym (of-b.both B)) (opens-too _ theirs.side)) wire-too flows-too);
      }

-- a test that fails where the one before it holds
pub not-both : (a b : Bool) → (a ≡ true → b ≡ false) → (a && b) ≡ false
not-both true b e = e refl
not-both false b e = refl

pub first-fails : (a b : Bool) → a ≡ false → (a && b) ≡ false
first-fails true b e = absurd (true≢false e)
first-fails false b e = refl
