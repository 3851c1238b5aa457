-- What an entry of a played history makes of the streams that a host keeps, those of the side that acts and those of its peer.
use Rattle.std.proofs.Common.{◌≡◌, ◌∙◌, ap, sym, subst, refl, arith, append-nil, eqb-true, eq-eqb}
use Rattle.std.proofs.lemmas.Bool.{eqb-false}
use Rattle.std.proofs.lemmas.List.{take_all, get_or-set_same, get_or-set_other}
use Rattle.std.specs.Prelude.{Bool, List, Option, Some, None, IfSome, [], false, true, filter_map, flat_map, if◌then◌else◌, length, take, drop, ℕ, ◌+◌, ◌-◌, ◌==◌, ◌&&◌, ◌++◌, ◌≤◌, ◌<◌, ◌∷◌, option_map, slice_set}
use Rattle.std.specs.Option.{option_or}
use Rattle.std.specs.List.{cons_option}
use Rattle.smc_num.specs.declared.Side.{Side}
use Rattle.smc_num.specs.declared.Side.TheVariants.{A, B}
use Rattle.smc_num.specs.declared.LinkId.{LinkId}
use Rattle.smc_num.specs.Names.{head, other, same_side}
use Rattle.clc_wire.specs.declared.message.ClcMessage.{ClcMessage}
use Rattle.clc_wire.specs.declared.message.ClcMessage.TheVariants.{Accept as AcceptMessage, Confirm as ConfirmMessage}
use Rattle.clc_wire.specs.Clc.{clc_bytes, clc_length}
use Rattle.pipe_model.specs.declared.reply.Reply.TheVariants.{Bytes}
use Rattle.pipe_model.specs.declared.event.End.{End}
use Rattle.pipe_model.specs.declared.event.Event.{Event}
use Rattle.pipe_model.specs.declared.event.Event.TheVariants.{Open, Write, Read, Clc as ClcEvent, Deliver, Complete}
use Rattle.pipe_model.specs.declared.closing.Phase.TheVariants.{Open as OpenPhase}
use Rattle.pipe_model.specs.declared.post.Post.{Post}
use Rattle.pipe_model.specs.declared.post.Post.TheVariants.{Write as WritePost, Cdc, Llc, Clc}
use Rattle.pipe_model.specs.declared.setup.Setup.{Setup}
use Rattle.pipe_model.specs.declared.entry.Entry.{Entry}
use Rattle.pipe_model.specs.History.{Offered, offered, offer_in, offered_if}
use Rattle.pipe_model.specs.Calls.{Writes}
use Rattle.pipe_model.specs.Fallback.{clc_in, fallen_write, front_length, is_fallen, read_out, stream, stream_room, takes_clc, takes_message, untaken, written}
use Rattle.pipe_model.specs.Lawful.{reply_of}
use Rattle.tcp_pipe.specs.Streams.{Direction, free}
use Rattle.pipe_model.specs.Fits.{Fits}
use Rattle.world_core.specs.Played.{IsMade, IsOneLink, IsPlayed}
use Rattle.pipe_model.specs.Replies.{told}
use Rattle.world_core.specs.Hosts.{IsStreamAfter}
use Rattle.world_core.specs.Sending.{acting_side, outflow_at, puts, puts_all, still, takes_next}
use Rattle.world_core.specs.Streams.{gives_out, may_post_clc, takes_in}
use Rattle.world_core.specs.WireSteps.{EachPost}
use Rattle.world_core.specs.declared.host.Outflow.{Outflow}
use Rattle.world_core.proofs.ClcLengths.{IsMeasured, measured-new}
use Rattle.world_core.proofs.ClcPosts.{IsAsked, News, NoClc, NoNews, OneNews, Puts, PutsNone, PutsOne, news, no-clc-posts, none-in, none-offered, none-put, one-in, puts as puts-of}
use Rattle.world_core.proofs.StreamFronts.{clc-writes, complete-writes, deliver-writes, fallen-call-told, fallen-heard-all, few-untaken, flowed, flowed-is, front-is-untaken, front-whole, not-other, open-writes, other-other, put-of, read-by, read-writes, taken-of, told-is, waits-is, written-by, wrote-is, zero-plus}
use Rattle.world_core.proofs.Plain.{and-false, same-self, apart-sides, plus-none}

-- a post that is no message of a side on a socket makes no offer for it
no-offer-apart : (x : Side) (s : ℕ) (y : Side) (t : ℕ) (link : Option LinkId) (m : ClcMessage) → (same_side x y && (s == t)) ≡ false → offer_in x s (Clc y t link m) ≡ None
no-offer-apart B s B t (Some link) (AcceptMessage o) e = ap (λ b. offered_if b link o) e
no-offer-apart A s A t (Some link) (ConfirmMessage o) e = ap (λ b. offered_if b link o) e
no-offer-apart _ s _ t _ _ e = refl

no-offers-in : (x : Side) (s : ℕ) (posts : List Post) → filter_map (clc_in x s) posts ≡ [] → filter_map (offer_in x s) posts ≡ []
no-offers-in x s [] e = refl
no-offers-in A s (WritePost from link key address len ∷ posts) e = no-offers-in A s posts e
no-offers-in A s (Cdc from link m ∷ posts) e = no-offers-in A s posts e
no-offers-in A s (Llc from link m ∷ posts) e = no-offers-in A s posts e
no-offers-in B s (WritePost from link key address len ∷ posts) e = no-offers-in B s posts e
no-offers-in B s (Cdc from link m ∷ posts) e = no-offers-in B s posts e
no-offers-in B s (Llc from link m ∷ posts) e = no-offers-in B s posts e
no-offers-in x s (Clc y t link m ∷ posts) e = by (same_side x y && (s == t)) refl (no-offers-in x s posts)
  where
    by : (b : Bool) → (same_side x y && (s == t)) ≡ b → (filter_map (clc_in x s) posts ≡ [] → filter_map (offer_in x s) posts ≡ []) → filter_map (offer_in x s) (Clc y t link m ∷ posts) ≡ []
    by true f rest = absurd (never (sym (ap (λ b. cons_option (if b then Some m else None) (filter_map (clc_in x s) posts)) f) ∙ e))
      where
        never : m ∷ filter_map (clc_in x s) posts ≡ [] → ⊥
        never h = cc
    by false f rest =
        ap (λ o. cons_option o (filter_map (offer_in x s) posts)) (no-offer-apart x s y t link m f)
        ∙ rest (sym (ap (λ b. cons_option (if b then Some m else None) (filter_map (clc_in x s) posts)) f) ∙ e)

-- an empty stream has room for a message
whole-in : (held bytes : List ℕ) → held ≡ [] → length bytes ≤ stream_room → held ++ take (stream_room - length held) bytes ≡ bytes
whole-in held bytes e fits = ap (λ bs. bs ++ take (stream_room - length bs) bytes) e ∙ take_all stream_room bytes fits

-- one message that waits
alone : (ms : List ClcMessage) (m : ClcMessage) → head ms ≡ Some m → drop 1 ms ≡ [] → ms ≡ m ∷ []
alone [] m h d = cc
alone (k ∷ ks) m h d = ap (λ j. j ∷ ks) (some-is k m h) ∙ ap (λ js. m ∷ js) d
  where
    some-is : (a b : ClcMessage) → Some a ≡ Some b → a ≡ b
    some-is a b e = cc

-- the streams of a side after a history
abbrev pub Flowing : List ℕ → ℕ → Side → List Entry → List Outflow → Type 0
Flowing payload sockets x past flows = (s : ℕ) → s < sockets → IsStreamAfter payload x s past (outflow_at s flows)

module _ (setup : Setup) (one : IsOneLink setup) (payload : List ℕ) where
  -- one stream in a list is another than before
  at-same : (flows : List Outflow) (t s : ℕ) (f : Outflow) → (s == t) ≡ true → t < length flows → outflow_at s (slice_set flows t f) ≡ f
  at-same flows t s f e low = ap (λ r. outflow_at r (slice_set flows t f)) (eqb-true s t e) ∙ get_or-set_same flows t f still low

  at-other : (flows : List Outflow) (t s : ℕ) (f : Outflow) → (s == t) ≡ false → outflow_at s (slice_set flows t f) ≡ outflow_at s flows
  at-other flows t s f e = get_or-set_other flows t s f still (eqb-false s t e)

  module _ (e : Entry) (past : List Entry) (n : ℕ) (p : IsPlayed setup payload (e ∷ past) n) where
    -- the same stream, where nothing comes in or leaves
    stays : (x : Side) (s : ℕ) (f : Outflow) → takes_clc x s e.event e.reply ≡ false → read_out x s e.event e.reply past ≡ 0 → filter_map (clc_in x s) e.posts ≡ [] → written payload x s e.event e.reply past ≡ []
        → IsStreamAfter payload x s past f → IsStreamAfter payload x s (e ∷ past) f
    stays x s f t r m w is =
        let g : stream payload x s (e ∷ past) ≡ stream payload x s past = flowed-is setup one payload x s e past false 0 [] [] (stream payload x s past) t r m w refl ∙ append-nil (stream payload x s past) in
        let u : untaken x s (e ∷ past) ≡ untaken x s past = waits-is setup one payload x s e past false [] (untaken x s past) t m refl ∙ append-nil (untaken x s past) in
        let o : offered x s (e ∷ past) ≡ offered x s past = ap (λ (os : List Offered). option_or (head os) (offered x s past)) (no-offers-in x s e.posts m) in
        let next = is.next in
        record {
          held = is.held ∙ ap (λ bs. record { held = bs; ended = false; reset = false }) (sym g);
          next = record {
            message = next.message ∙ ap (λ ms. head ms) (sym u);
            link = subst (λ (q : Option Offered). IfSome f.next (λ k. k.link ≡ option_map (λ v. v.link) q)) (sym o) next.link;
          };
        }

    -- what the side that acts doesn't do to its own streams
    own-takes : (s : ℕ) → takes_clc (acting_side e.event) s e.event e.reply ≡ false
    own-takes s = by e.event (built p.1)
      where
        built : IsMade setup payload past p.0 e → Fits setup (length payload) e.event
        built k = k.built

        opposite : (dir : Side) → same_side (other dir) dir ≡ false
        opposite A = refl
        opposite B = refl

        by : (event : Event) → Fits setup (length payload) event → takes_clc (acting_side event) s event e.reply ≡ false
        by (Open t) b = refl
        by (ClcEvent t dir) b = ap (λ c. (s == t) && (c && takes_message e.reply)) (opposite dir) ∙ and-false (s == t)
        by (Write end at len) b = refl
        by (Read end len) b = refl
        by (Deliver slot dir) b = refl
        by (Complete slot dir) b = refl
        by event b = absurd b

    own-reads : (s : ℕ) → read_out (acting_side e.event) s e.event e.reply past ≡ 0
    own-reads s = by e.event (built p.1)
      where
        built : IsMade setup payload past p.0 e → Fits setup (length payload) e.event
        built k = k.built

        opposite : (dir : Side) → same_side (other dir) dir ≡ false
        opposite A = refl
        opposite B = refl

        by : (event : Event) → Fits setup (length payload) event → read_out (acting_side event) s event e.reply past ≡ 0
        by (Open t) b = refl
        by (ClcEvent t dir) b = refl
        by (Write end at len) b = refl
        by (Read end len) b =
            read-by end.side s end len e.reply past ∙ ap (λ c. if c && ((s == end.s) && is_fallen (other end.side) s past) then taken-of e.reply else 0) (opposite end.side)
        by (Deliver slot dir) b = refl
        by (Complete slot dir) b = refl
        by event b = absurd b

    -- a message goes into an empty stream
    posted-in : (x : Side) (s : ℕ) (link : Option LinkId) (m : ClcMessage) (more : List Post) (f : Outflow) → x ≡ acting_side e.event → e.posts ≡ Clc x s link m ∷ more → EachPost NoClc more → IsAsked setup payload past x s link m
        → written payload x s e.event e.reply past ≡ [] → IsStreamAfter payload x s past f → IsStreamAfter payload x s (e ∷ past) (puts link m f)
    posted-in x s link m more f acts is none a w f_is =
        let i : IsMeasured m = measured-new setup payload x past link m a.new in
        let long = i.length_is in
        let most = i.most in
        let empty : stream payload x s past ≡ [] = front-is-untaken setup one payload past p.0 p.3 x s a.unfallen ∙ ap (λ ms. flat_map clc_bytes ms) a.taken in
        let t : takes_clc x s e.event e.reply ≡ false = ap (λ y. takes_clc y s e.event e.reply) acts ∙ own-takes s in
        let r : read_out x s e.event e.reply past ≡ 0 = ap (λ y. read_out y s e.event e.reply past) acts ∙ own-reads s in
        let mine : (same_side x x && (s == s)) ≡ true = ap (λ b. b && (s == s)) (same-self x) ∙ eq-eqb s s refl in
        let posted : filter_map (clc_in x s) e.posts ≡ m ∷ [] = ap (λ ps. filter_map (clc_in x s) ps) is ∙ (one-in x s x s link m more none ∙ ap (λ b. if b then m ∷ [] else []) mine) in
        let g : stream payload x s (e ∷ past) ≡ clc_bytes m =
        flowed-is setup one payload x s e past false 0 (m ∷ []) [] [] t r posted w empty ∙ (append-nil (clc_bytes m ++ []) ∙ append-nil (clc_bytes m)) in
        let u : untaken x s (e ∷ past) ≡ m ∷ [] = waits-is setup one payload x s e past false (m ∷ []) [] t posted a.taken in
        let o : option_or (head (filter_map (offer_in x s) (Clc x s link m ∷ []))) (offered x s past) ≡ offered x s (e ∷ past) =
        ap (λ (os : List Offered). option_or (head (cons_option (offer_in x s (Clc x s link m)) os)) (offered x s past)) (sym (none-offered x s more none))
        ∙ ap (λ (ps : List Post). option_or (head (filter_map (offer_in x s) ps)) (offered x s past)) (sym is) in
        record {
          held =
              ap (λ (d : Direction). record d { held = d.held ++ take (free d) (clc_bytes m) }) f_is.held
              ∙ ap (λ bs. record { held = bs; ended = false; reset = false }) (whole-in (stream payload x s past) (clc_bytes m) empty (omega (arith, long, most)) ∙ sym g);
          next = record {
            message = ap (λ ms. head ms) (sym u);
            link = a.about ∙ ap (λ q. option_map (λ v. v.link) q) o;
          };
        }

    -- the streams of the side that acts, where its application writes nothing
    pub own-flows : (flows : List Outflow) → length flows ≡ setup.sockets → Flowing payload setup.sockets (acting_side e.event) past flows → ((s : ℕ) → written payload (acting_side e.event) s e.event e.reply past ≡ [])
        → Flowing payload setup.sockets (acting_side e.event) (e ∷ past) (puts_all e.posts flows)
    own-flows flows long are w = by (puts-of setup one payload e past n p)
      where
        x : Side
        x = acting_side e.event

        by : Puts setup payload e past → Flowing payload setup.sockets x (e ∷ past) (puts_all e.posts flows)
        by (PutsNone none) s low =
            subst (λ (fs : List Outflow). IsStreamAfter payload x s (e ∷ past) (outflow_at s fs)) (sym (none-put e.posts flows none))
            (stays x s (outflow_at s flows) (own-takes s) (own-reads s) (none-in x s e.posts none) (w s) (are s low))
        by (PutsOne t link m more is none a) s low = subst (λ (fs : List Outflow). IsStreamAfter payload x s (e ∷ past) (outflow_at s fs)) (sym put) (at-socket (s == t) refl)
          where
            put : puts_all e.posts flows ≡ slice_set flows t (puts link m (outflow_at t flows))
            put = ap (λ ps. puts_all ps flows) is ∙ none-put more (slice_set flows t (puts link m (outflow_at t flows))) none

            at-socket : (b : Bool) → (s == t) ≡ b → IsStreamAfter payload x s (e ∷ past) (outflow_at s (slice_set flows t (puts link m (outflow_at t flows))))
            at-socket true g =
                subst (λ (f : Outflow). IsStreamAfter payload x s (e ∷ past) f) (sym (at-same flows t s (puts link m (outflow_at t flows)) g (subst (λ k. t < k) (sym long) a.socket)))
                (subst (λ r. IsStreamAfter payload x r (e ∷ past) (puts link m (outflow_at t flows))) (sym (eqb-true s t g)) (posted-in x t link m more (outflow_at t flows) refl is none a (w t) (are t a.socket)))
            at-socket false g =
                subst (λ (f : Outflow). IsStreamAfter payload x s (e ∷ past) f) (sym (at-other flows t s (puts link m (outflow_at t flows)) g))
                (stays x s (outflow_at s flows) (own-takes s) (own-reads s) apart (w s) (are s low))
              where
                apart : filter_map (clc_in x s) e.posts ≡ []
                apart = ap (λ ps. filter_map (clc_in x s) ps) is ∙ (one-in x s x t link m more none ∙ (ap (λ b. if same_side x x && b then m ∷ [] else []) g ∙ ap (λ b. if b then m ∷ [] else []) (and-false (same_side x x))))

    -- a message that is posted has room
    pub room-for-clc : (s : ℕ) (m : ClcMessage) → filter_map (clc_in (acting_side e.event) s) e.posts ≡ m ∷ [] → length (clc_bytes m) ≤ stream_room - length (stream payload (acting_side e.event) s past)
    room-for-clc s m is = by (news setup payload e past (puts-of setup one payload e past n p) (acting_side e.event) s)
      where
        first-is : (a b : ClcMessage) → a ∷ [] ≡ b ∷ [] → a ≡ b
        first-is a b h = cc

        never : m ∷ [] ≡ [] → ⊥
        never h = cc

        by : News setup payload e past (acting_side e.event) s → length (clc_bytes m) ≤ stream_room - length (stream payload (acting_side e.event) s past)
        by (NoNews none) = absurd (never (sym is ∙ none))
        by (OneNews link k posted offers acts a) =
            let same : k ≡ m = first-is k m (sym posted ∙ is) in
            let i : IsMeasured k = measured-new setup payload (acting_side e.event) past link k a.new in
            let long = i.length_is in
            let most = i.most in
            let it = ap (λ j. length (clc_bytes j)) same in
            let empty : stream payload (acting_side e.event) s past ≡ [] = front-is-untaken setup one payload past p.0 p.3 (acting_side e.event) s a.unfallen ∙ ap (λ ms. flat_map clc_bytes ms) a.taken in
            let none = ap (λ bs. length bs) empty in
            omega (arith, long, most, it, none)

    -- the peer of the side that acts posts and writes nothing
    their-posts : (x : Side) (s : ℕ) → acting_side e.event ≡ other x → filter_map (clc_in x s) e.posts ≡ []
    their-posts x s acts = by (news setup payload e past (puts-of setup one payload e past n p) x s)
      where
        by : News setup payload e past x s → filter_map (clc_in x s) e.posts ≡ []
        by (NoNews none) = none
        by (OneNews link m is offers side a) = absurd (not-other x (side ∙ acts))

    their-writes : (x : Side) (s : ℕ) → acting_side e.event ≡ other x → written payload x s e.event e.reply past ≡ []
    their-writes x s acts = by e.event (built p.1) acts
      where
        built : IsMade setup payload past p.0 e → Fits setup (length payload) e.event
        built k = k.built

        by : (event : Event) → Fits setup (length payload) event → acting_side event ≡ other x → written payload x s event e.reply past ≡ []
        by (Open t) b c = open-writes payload x s t e.reply past
        by (ClcEvent t dir) b c = clc-writes payload x s t dir e.reply past
        by (Read end len) b c = read-writes payload x s end len e.reply past
        by (Deliver slot dir) b c = deliver-writes payload x s slot dir e.reply past
        by (Complete slot dir) b c = complete-writes payload x s slot dir e.reply past
        by (Write end at len) b c =
            written-by payload x s end at len e.reply past
            ∙ ap (λ k. if k && ((s == end.s) && is_fallen x s past) then put-of e.reply (drop at payload) else []) (ap (λ y. same_side x y) c ∙ apart-sides x)
        by event b c = absurd b

    -- the streams of the peer of the side that acts, where nothing is taken out of them
    pub their-flows : (x : Side) → acting_side e.event ≡ other x → (flows : List Outflow) → ((s : ℕ) → takes_clc x s e.event e.reply ≡ false) → ((s : ℕ) → read_out x s e.event e.reply past ≡ 0)
        → Flowing payload setup.sockets x past flows → Flowing payload setup.sockets x (e ∷ past) flows
    their-flows x acts flows t r are s low = stays x s (outflow_at s flows) (t s) (r s) (their-posts x s acts) (their-writes x s acts) (are s low)

    -- an application writes into the stream of an end that has fallen back
    pub written-on-fallen : (end : End) (at len : ℕ) → e.event ≡ Write end at len → is_fallen end.side end.s past ≡ true
        → written payload end.side end.s e.event e.reply past ≡ take (stream_room - length (stream payload end.side end.s past)) (take len (drop at payload))
    written-on-fallen end at len is f =
        let told : e.reply ≡ fallen_write false (stream_room - length (stream payload end.side end.s past)) (length (take len (drop at payload))) OpenPhase =
        told-is setup one payload e past n p (Write end at len) is ∙ ap (λ t. reply_of p.0 t) (fallen-call-told setup one payload past p.0 p.3 end (Writes (take len (drop at payload))) f) in
        let mine : (same_side end.side end.side && ((end.s == end.s) && is_fallen end.side end.s past)) ≡ true =
        ap (λ b. b && ((end.s == end.s) && is_fallen end.side end.s past)) (same-self end.side) ∙ (ap (λ b. b && is_fallen end.side end.s past) (eq-eqb end.s end.s refl) ∙ f) in
        ap (λ v. written payload end.side end.s v e.reply past) is
        ∙ (written-by payload end.side end.s end at len e.reply past
        ∙ (ap (λ b. if b then put-of e.reply (drop at payload) else []) mine
        ∙ wrote-is payload at len (stream_room - length (stream payload end.side end.s past)) e.reply told))

    pub own-written : (end : End) (at len : ℕ) → e.event ≡ Write end at len → is_fallen end.side end.s past ≡ true → (flows : List Outflow) → length flows ≡ setup.sockets → Flowing payload setup.sockets end.side past flows
        → Flowing payload setup.sockets end.side (e ∷ past) (slice_set flows end.s (takes_in (take len (drop at payload)) (outflow_at end.s flows)))
    own-written end at len is f flows long are s low = by (s == end.s) refl
      where
        bytes : List ℕ
        bytes = take len (drop at payload)

        now : Outflow
        now = takes_in bytes (outflow_at end.s flows)

        within : end.s < setup.sockets
        within = built p.1
          where
            built : IsMade setup payload past p.0 e → end.s < setup.sockets
            built k = let b : Fits setup (length payload) (Write end at len) = subst (Fits setup (length payload)) is k.built in b.0

        takes-none : (r : ℕ) → takes_clc end.side r e.event e.reply ≡ false
        takes-none r = ap (λ v. takes_clc end.side r v e.reply) is

        reads-none : (r : ℕ) → read_out end.side r e.event e.reply past ≡ 0
        reads-none r = ap (λ v. read_out end.side r v e.reply past) is

        posts-none : (r : ℕ) → filter_map (clc_in end.side r) e.posts ≡ []
        posts-none r = none-in end.side r e.posts (no-clc-posts setup one payload e past n p (ap may_post_clc is))

        grown : IsStreamAfter payload end.side end.s past (outflow_at end.s flows) → IsStreamAfter payload end.side end.s (e ∷ past) now
        grown was =
            let g : stream payload end.side end.s (e ∷ past) ≡ stream payload end.side end.s past ++ take (stream_room - length (stream payload end.side end.s past)) bytes =
            flowed-is setup one payload end.side end.s e past false 0 [] (take (stream_room - length (stream payload end.side end.s past)) bytes) (stream payload end.side end.s past) (takes-none end.s) (reads-none end.s) (posts-none end.s) (written-on-fallen end at len is f) refl in
            let u : untaken end.side end.s (e ∷ past) ≡ untaken end.side end.s past = waits-is setup one payload end.side end.s e past false [] (untaken end.side end.s past) (takes-none end.s) (posts-none end.s) refl ∙ append-nil (untaken end.side end.s past) in
            let o : offered end.side end.s (e ∷ past) ≡ offered end.side end.s past = ap (λ (os : List Offered). option_or (head os) (offered end.side end.s past)) (no-offers-in end.side end.s e.posts (posts-none end.s)) in
            let next = was.next in
            record {
              held = ap (λ (d : Direction). record d { held = d.held ++ take (free d) bytes }) was.held ∙ ap (λ bs. record { held = bs; ended = false; reset = false }) (sym g);
              next = record {
                message = next.message ∙ ap (λ ms. head ms) (sym u);
                link = subst (λ (q : Option Offered). IfSome (outflow_at end.s flows).next (λ k. k.link ≡ option_map (λ v. v.link) q)) (sym o) next.link;
              };
            }

        by : (b : Bool) → (s == end.s) ≡ b → IsStreamAfter payload end.side s (e ∷ past) (outflow_at s (slice_set flows end.s now))
        by true g =
            subst (λ (h : Outflow). IsStreamAfter payload end.side s (e ∷ past) h) (sym (at-same flows end.s s now g (subst (λ k. end.s < k) (sym long) within)))
            (subst (λ r. IsStreamAfter payload end.side r (e ∷ past) now) (sym (eqb-true s end.s g)) (grown (are end.s within)))
        by false g =
            subst (λ (h : Outflow). IsStreamAfter payload end.side s (e ∷ past) h) (sym (at-other flows end.s s now g))
            (stays end.side s (outflow_at s flows) (takes-none s) (reads-none s) (posts-none s)
            (ap (λ v. written payload end.side s v e.reply past) is ∙ (written-by payload end.side s end at len e.reply past
            ∙ (ap (λ b. if same_side end.side end.side && (b && is_fallen end.side s past) then put-of e.reply (drop at payload) else []) g
            ∙ ap (λ b. if b then put-of e.reply (drop at payload) else []) (and-false (same_side end.side end.side)))))
            (are s low))

    -- the message that waits is taken out of the peer's stream
    pub their-taken : (x : Side) (t : ℕ) (m : ClcMessage) → e.event ≡ ClcEvent t x → takes_message e.reply ≡ true → head (untaken x t past) ≡ Some m → (flows : List Outflow) → length flows ≡ setup.sockets → Flowing payload setup.sockets x past flows
        → Flowing payload setup.sockets x (e ∷ past) (slice_set flows t (takes_next m (outflow_at t flows)))
    their-taken x t m is takes first flows long are s low = by (s == t) refl
      where
        now : Outflow
        now = takes_next m (outflow_at t flows)

        within : t < setup.sockets
        within = built p.1
          where
            built : IsMade setup payload past p.0 e → t < setup.sockets
            built k = subst (Fits setup (length payload)) is k.built

        waits : untaken x t past ≡ m ∷ []
        waits = alone (untaken x t past) m first (few-untaken setup one payload past p.0 p.3 x t)

        acts : acting_side e.event ≡ other x
        acts = ap acting_side is

        takes-at : (r : ℕ) (b : Bool) → (r == t) ≡ b → takes_clc x r e.event e.reply ≡ b
        takes-at r b g =
            ap (λ v. takes_clc x r v e.reply) is
            ∙ (ap (λ c. c && (same_side x x && takes_message e.reply)) g ∙ (ap (λ c. b && (c && takes_message e.reply)) (same-self x) ∙ (ap (λ c. b && c) takes ∙ and-true b)))
          where
            and-true : (c : Bool) → (c && true) ≡ c
            and-true true = refl
            and-true false = refl

        reads-none : (r : ℕ) → read_out x r e.event e.reply past ≡ 0
        reads-none r = ap (λ v. read_out x r v e.reply past) is

        shrunk : IsStreamAfter payload x t past (outflow_at t flows) → IsStreamAfter payload x t (e ∷ past) now
        shrunk was =
            let takes-it : takes_clc x t e.event e.reply ≡ true = takes-at t true (eq-eqb t t refl) in
            let g : stream payload x t (e ∷ past) ≡ drop (clc_length m) (stream payload x t past) =
            flowed-is setup one payload x t e past true 0 [] [] (stream payload x t past) takes-it (reads-none t) (their-posts x t acts) (their-writes x t acts) refl
            ∙ (ap (λ fr. flowed setup one payload true (front_length fr) 0 [] [] (stream payload x t past)) (front-whole setup one payload past p.0 p.3 x t m waits)
            ∙ (append-nil (drop (clc_length m + 0) (stream payload x t past)) ∙ ap (λ k. drop k (stream payload x t past)) (plus-none (clc_length m)))) in
            let u : untaken x t (e ∷ past) ≡ [] = waits-is setup one payload x t e past true [] (m ∷ []) takes-it (their-posts x t acts) waits in
            record {
              held = ap (λ (d : Direction). record d { held = drop (clc_length m) d.held }) was.held ∙ ap (λ bs. record { held = bs; ended = false; reset = false }) (sym g);
              next = record { message = ap (λ ms. head ms) (sym u); link = tt };
            }

        by : (b : Bool) → (s == t) ≡ b → IsStreamAfter payload x s (e ∷ past) (outflow_at s (slice_set flows t now))
        by true g =
            subst (λ (h : Outflow). IsStreamAfter payload x s (e ∷ past) h) (sym (at-same flows t s now g (subst (λ k. t < k) (sym long) within)))
            (subst (λ r. IsStreamAfter payload x r (e ∷ past) now) (sym (eqb-true s t g)) (shrunk (are t within)))
        by false g =
            subst (λ (h : Outflow). IsStreamAfter payload x s (e ∷ past) h) (sym (at-other flows t s now g))
            (stays x s (outflow_at s flows) (takes-at s false g) (reads-none s) (their-posts x s acts) (their-writes x s acts) (are s low))

    -- an end that has fallen back reads out of its peer's stream
    pub their-read : (end : End) (len from k : ℕ) → e.event ≡ Read end len → e.reply ≡ Bytes from k → is_fallen end.side end.s past ≡ true → (flows : List Outflow) → length flows ≡ setup.sockets → Flowing payload setup.sockets (other end.side) past flows
        → Flowing payload setup.sockets (other end.side) (e ∷ past) (slice_set flows end.s (gives_out k (outflow_at end.s flows)))
    their-read end len from k is told f flows long are s low = by (s == end.s) refl
      where
        x : Side
        x = other end.side

        now : Outflow
        now = gives_out k (outflow_at end.s flows)

        within : end.s < setup.sockets
        within = built p.1
          where
            built : IsMade setup payload past p.0 e → end.s < setup.sockets
            built j = subst (Fits setup (length payload)) is j.built

        acts : acting_side e.event ≡ other x
        acts = ap acting_side is ∙ sym (other-other end.side)

        takes-none : (r : ℕ) → takes_clc x r e.event e.reply ≡ false
        takes-none r = ap (λ v. takes_clc x r v e.reply) is

        mine : same_side (other x) end.side ≡ true
        mine = ap (λ y. same_side y end.side) (other-other end.side) ∙ same-self end.side

        reads-at : (r : ℕ) (b : Bool) → (r == end.s) ≡ b → read_out x r e.event e.reply past ≡ (if b && is_fallen (other x) r past then k else 0)
        reads-at r b g =
            ap (λ v. read_out x r v e.reply past) is
            ∙ (read-by x r end len e.reply past
            ∙ (ap (λ c. if c && ((r == end.s) && is_fallen (other x) r past) then taken-of e.reply else 0) mine
            ∙ (ap (λ c. if c && is_fallen (other x) r past then taken-of e.reply else 0) g ∙ ap (λ q. if b && is_fallen (other x) r past then taken-of q else 0) told)))

        fallen : is_fallen (other x) end.s past ≡ true
        fallen = ap (λ y. is_fallen y end.s past) (other-other end.side) ∙ f

        reads-it : read_out x end.s e.event e.reply past ≡ k
        reads-it = reads-at end.s true (eq-eqb end.s end.s refl) ∙ ap (λ b. if b then k else 0) fallen

        shrunk : IsStreamAfter payload x end.s past (outflow_at end.s flows) → IsStreamAfter payload x end.s (e ∷ past) now
        shrunk was =
            let none : untaken x end.s past ≡ [] = fallen-heard-all setup one payload past p.0 p.3 end.side end.s f in
            let g : stream payload x end.s (e ∷ past) ≡ drop k (stream payload x end.s past) =
            flowed-is setup one payload x end.s e past false k [] [] (stream payload x end.s past) (takes-none end.s) reads-it (their-posts x end.s acts) (their-writes x end.s acts) refl
            ∙ (ap (λ j. drop j (stream payload x end.s past) ++ []) (zero-plus setup one payload k) ∙ append-nil (drop k (stream payload x end.s past))) in
            let u : untaken x end.s (e ∷ past) ≡ untaken x end.s past = waits-is setup one payload x end.s e past false [] (untaken x end.s past) (takes-none end.s) (their-posts x end.s acts) refl ∙ append-nil (untaken x end.s past) in
            let o : offered x end.s (e ∷ past) ≡ offered x end.s past = ap (λ (os : List Offered). option_or (head os) (offered x end.s past)) (no-offers-in x end.s e.posts (their-posts x end.s acts)) in
            let next = was.next in
            record {
              held = ap (λ (d : Direction). record d { held = drop k d.held }) was.held ∙ ap (λ bs. record { held = bs; ended = false; reset = false }) (sym g);
              next = record {
                message = next.message ∙ ap (λ ms. head ms) (sym u);
                link = subst (λ (q : Option Offered). IfSome (outflow_at end.s flows).next (λ j. j.link ≡ option_map (λ v. v.link) q)) (sym o) next.link;
              };
            }

        by : (b : Bool) → (s == end.s) ≡ b → IsStreamAfter payload x s (e ∷ past) (outflow_at s (slice_set flows end.s now))
        by true g =
            subst (λ (h : Outflow). IsStreamAfter payload x s (e ∷ past) h) (sym (at-same flows end.s s now g (subst (λ j. end.s < j) (sym long) within)))
            (subst (λ r. IsStreamAfter payload x r (e ∷ past) now) (sym (eqb-true s end.s g)) (shrunk (are end.s within)))
        by false g =
            subst (λ (h : Outflow). IsStreamAfter payload x s (e ∷ past) h) (sym (at-other flows end.s s now g))
            (stays x s (outflow_at s flows) (takes-none s) (reads-at s false g) (their-posts x s acts) (their-writes x s acts) (are s low))
