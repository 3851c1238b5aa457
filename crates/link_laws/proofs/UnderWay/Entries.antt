-- Entries that change no link, swallows and deliveries: links, flows and wires go on.
use Rattle.std.proofs.Common.{Bool, List, None, Some, [], ap, drop, eqb-true, false, if◌then◌else◌, inl, inr, not, refl, subst, sym, true, ℕ, ◌&&◌, ◌++◌, ◌==◌, ◌∙◌, ◌∷◌, ◌≡◌, ◌⊎◌}
use Rattle.std.specs.Prelude.{Option, is_some, nat_lt, option_and_then, option_map}
use Rattle.std.specs.Option.{option_or}
use Rattle.pipe_model.specs.declared.reply.Reply.TheVariants.{Idle}
use Rattle.pipe_model.specs.Wires.{landing, swallows}
use Rattle.pipe_model.specs.Fabric.{does, lands as lands_at}
use Rattle.pipe_model.specs.declared.post.Post.TheVariants.{Clc, Write}
use Rattle.history_laws.specs.Words.{A, B, Cdc, Deliver, Dropped, Entry, Event, Fabric, Landed, LinkId, Llc, LlcMessage, Placed, Post, Reply, Setup, Side, Swallow, act_of, act_posts, completed_told, deliver_told, fabric, head, if_latest, is_cut, is_dead, is_latest, is_nil, is_on, lands_told, latest, leaves, llc_step, other, passes, post_at, record_of, same_link, same_side, some_reported, step_posts, swallow_limit, swallowed, swallowed_on, uncompleted, unlanded}
use Rattle.history_laws.proofs.Basics.{link-is, none-is, some-is}
use Rattle.link_laws.specs.Linked.{AreLinked, Under, carried_on, is_link_message, left_by}
use Rattle.link_laws.proofs.UnderWay.PostKinds.{HasNoLlc, kind-before, link-in, made-before, no-llc-kind, no-llc-made, no-llc-one, one-before}
use Rattle.link_laws.proofs.UnderWay.Step.{GoesOn, made-links}
use Rattle.link_laws.specs.UnderWay.{AreCarriedOf, AreOnMade, HasFlows, HasOneOf, kind_in, kind_messages, kind_of, link_kind}
use Rattle.link_laws.proofs.UnderWay.WireStep.{Grows, IsFree, alive-is}
use Rattle.link_laws.proofs.UnderWay.StepPosts.{made-later, step-made, step-one}
use Rattle.link_laws.proofs.UnderWay.Growing.{grows-does, grows-same}
use Rattle.link_laws.proofs.Sound.{lands, true-not-false}
use Rattle.link_laws.proofs.UnderWay.Places.{IsLanding, landing-is, own-message}
use Rattle.link_laws.proofs.UnderWay.Leaves.{leaves-carried, left_after}
use Rattle.link_laws.proofs.UnderWay.Carried.{landed-is}
use Rattle.link_laws.proofs.UnderWay.NothingLeft.{both-stand, step-free}

-- an entry with the LLC and CLC posts that stand here, and any others
abbrev pub entry_of : ℕ → Event → Reply → List Post → Entry
entry_of actor event reply posts = record { actor = actor; event = event; reply = reply; posts = posts }

-- such an entry goes on, whatever connections post with it
abbrev pub Draft : List Entry → Option Under → Event → Reply → List Post → Type 0
Draft past under event reply ps = (actor : ℕ) (cs : List Post) → HasNoLlc cs → GoesOn (entry_of actor event reply (ps ++ cs)) past under

-- nothing, whatever a test says
abbrev pub if_zero : Bool → ℕ
if_zero b = if b then 0 else 0

-- nothing leaves
pub none-leaves : (b : Bool) → if_zero b ≡ 0
none-leaves true = refl
none-leaves false = refl

module _ (past : List Entry) (all : HasFlows past) where
  carried : AreCarriedOf link_kind past all.under
  carried = all.carried

  -- nothing leaves a wire
  pub changed : (event : Event) (reply : Reply) (ps : List Post) → ((x : Side) (k : ℕ) → leaves x k event reply ≡ 0) → HasOneOf link_kind ps → AreOnMade (fabric past) ps → (kind_in link_kind ps ≡ None) ⊎ (all.under ≡ None)
      → ((actor : ℕ) (cs : List Post) → HasNoLlc cs → Grows (fabric past) (fabric (entry_of actor event reply (ps ++ cs) ∷ past)))
      → ((actor : ℕ) (cs : List Post) → HasNoLlc cs → AreLinked (fabric (entry_of actor event reply (ps ++ cs) ∷ past)) (option_or (kind_in link_kind ps) all.under)) → Draft past all.under event reply ps
  changed event reply ps none one made free grows linked actor cs bare = record {
    left = all.under;
    new = kind_in link_kind ps;
    grows = grows actor cs bare;
    linked = linked actor cs bare;
    kept = λ w e. e;
    stays = λ l x alive. ap (λ n. kind_messages link_kind (drop n (unlanded l x past))) (ap (λ n. if_latest l past n) (none x l.slot) ∙ none-leaves (is_latest l past)) ∙ carried.carried l x alive;
    one = one-before link_kind ps cs one bare;
    posted = kind-before link_kind ps cs bare;
    free = by free;
    made = made-later (fabric past) (fabric (entry_of actor event reply (ps ++ cs) ∷ past)) (ps ++ cs) (grows actor cs bare) (made-before (fabric past) ps cs made bare);
  }
    where
      by : (kind_in link_kind ps ≡ None) ⊎ (all.under ≡ None) → IsFree (entry_of actor event reply (ps ++ cs) ∷ past) all.under (kind_in link_kind ps)
      by (inl h) = inl h
      by (inr h) = inr (λ w e. absurd (none-is w (sym h ∙ e)))

  -- an entry that changes no link, and posts nothing of the link flow
  pub quiet : (event : Event) (reply : Reply) (ps : List Post) → ((x : Side) (k : ℕ) → leaves x k event reply ≡ 0) → ((actor : ℕ) (posts : List Post) → fabric (entry_of actor event reply posts ∷ past) ≡ fabric past) → HasNoLlc ps → Draft past all.under event reply ps
  quiet event reply ps none same bare = changed event reply ps none (no-llc-one link_kind ps bare) (no-llc-made (fabric past) ps bare) (inl (no-llc-kind link_kind ps bare))
      (λ actor cs nc. subst (λ f. Grows (fabric past) f) (sym (same actor (ps ++ cs))) (grows-same (fabric past)))
      (λ actor cs nc. subst (λ o. AreLinked (fabric (entry_of actor event reply (ps ++ cs) ∷ past)) (option_or o all.under)) (sym (no-llc-kind link_kind ps bare)) (subst (λ f. AreLinked f all.under) (sym (same actor (ps ++ cs))) all.linked))

  -- what is swallowed was on a cut link
  pub swallow : (slot : ℕ) (dir : Side) → Draft past all.under (Swallow slot dir) (completed_told (swallowed slot dir past)) []
  swallow slot dir = by (latest slot past) refl
    where
      idle : Draft past all.under (Swallow slot dir) Idle []
      idle = quiet (Swallow slot dir) Idle [] (λ x k. refl) (λ actor posts. refl) tt

      by : (o : Option LinkId) → latest slot past ≡ o → Draft past all.under (Swallow slot dir) (completed_told (option_and_then (λ link. swallowed_on link dir past) o)) []
      by None e = idle
      by (Some l0) e = cut (is_cut l0 past) (not (some_reported l0 past)) (is_nil (uncompleted l0 dir past) && nat_lt (swallows past) swallow_limit) refl
        where
          cut : (b c d : Bool) → is_cut l0 past ≡ b → Draft past all.under (Swallow slot dir) (completed_told (if (b && c) && d then head (unlanded l0 dir past) else None)) []
          cut false c d f = idle
          cut true false d f = idle
          cut true true false f = idle
          cut true true true f = at (head (unlanded l0 dir past))
            where
              at : (o : Option Placed) → Draft past all.under (Swallow slot dir) (completed_told o) []
              at None actor cs bare = idle actor cs bare
              at (Some c) actor cs bare = record {
                left = all.under;
                new = None;
                grows = grows-same (fabric past);
                linked = all.linked;
                kept = λ w e. e;
                stays = λ l x alive. ap (λ n. kind_messages link_kind (drop n (unlanded l x past))) (never l alive (same_side x dir) (l.slot == slot) refl) ∙ carried.carried l x alive;
                one = no-llc-one link_kind cs bare;
                posted = no-llc-kind link_kind cs bare;
                free = inl refl;
                made = no-llc-made (fabric past) cs bare;
              }
                where
                  other-link : (l : LinkId) → is_dead l past ≡ false → (l.slot == slot) ≡ true → is_latest l past ≡ false
                  other-link l alive s = ap (λ o. passes (same_link l) o) (ap (λ k. latest k past) (eqb-true l.slot slot s) ∙ e) ∙ apart (same_link l l0) refl
                    where
                      apart : (b : Bool) → same_link l l0 ≡ b → b ≡ false
                      apart true p = let h = alive-is l past alive in absurd (true-not-false (is_cut l past) (ap (λ l. is_cut l past) (link-is l l0 p) ∙ f) h.0)
                      apart false p = refl

                  never : (l : LinkId) → is_dead l past ≡ false → (b d : Bool) → (l.slot == slot) ≡ d → if_latest l past (if b && d then 1 else 0) ≡ 0
                  never l alive true true s = ap (λ b. if b then 1 else 0) (other-link l alive s)
                  never l alive true false s = none-leaves (is_latest l past)
                  never l alive false d s = none-leaves (is_latest l past)

  -- a delivery
  module _ (setup : Setup) (payload : List ℕ) (slot : ℕ) (dir : Side) where
    module _ (c : Placed) (land : IsLanding slot dir past c) where
      -- what leaves the wires with it
      landed-stays : (own : (v : Under) → kind_of link_kind c.post ≡ Some v → (v.from ≡ dir) × (v.link ≡ land.link)) (l : LinkId) (x : Side) → is_dead l past ≡ false
          → kind_messages link_kind (drop (if_latest l past (if same_side x dir && (l.slot == slot) then 1 else 0)) (unlanded l x past)) ≡ carried_on l x (left_after (kind_of link_kind c.post) all.under)
      landed-stays own l x alive = subst (λ k. kind_messages link_kind (drop (if_latest l past (if same_side x dir && (l.slot == k) then 1 else 0)) (unlanded l x past)) ≡ carried_on l x (left_after (kind_of link_kind c.post) all.under)) land.slot_is
          (leaves-carried link_kind past all.under all.carried land.link dir c land.rest land.last land.alive land.front own l x alive)

      -- a post that is no LLC message
      plain : (reply : Reply) → ((x : Side) (k : ℕ) → leaves x k (Deliver slot dir) reply ≡ (if same_side x dir && (k == slot) then 1 else 0)) → ((actor : ℕ) (posts : List Post) → fabric (entry_of actor (Deliver slot dir) reply posts ∷ past) ≡ fabric past) → kind_of link_kind c.post ≡ None → Draft past all.under (Deliver slot dir) reply []
      plain reply out same none actor cs bare = record {
        left = all.under;
        new = None;
        grows = subst (λ f. Grows (fabric past) f) (sym (same actor cs)) (grows-same (fabric past));
        linked = subst (λ f. AreLinked f all.under) (sym (same actor cs)) all.linked;
        kept = λ w e. e;
        stays = λ l x alive. ap (λ n. kind_messages link_kind (drop (if_latest l past n) (unlanded l x past))) (out x l.slot) ∙ (landed-stays (λ v e. absurd (none-is v (sym none ∙ e))) l x alive ∙ ap (λ o. carried_on l x (left_after o all.under)) none);
        one = no-llc-one link_kind cs bare;
        posted = no-llc-kind link_kind cs bare;
        free = inl refl;
        made = no-llc-made (fabric (entry_of actor (Deliver slot dir) reply cs ∷ past)) cs bare;
      }

      module _ (from : Side) (link : LinkId) (m : LlcMessage) (is : c.post ≡ Llc from link m) where
        ours : (from ≡ dir) × (link ≡ land.link)
        ours = own-message land.link dir from link m (ap (λ p. is_on land.link dir p) (sym is) ∙ land.on)

        alive : is_dead link past ≡ false
        alive = ap (λ l. is_dead l past) ours.1 ∙ land.alive

        twice : (x : Side) → other (other x) ≡ x
        twice A = refl
        twice B = refl

        -- of the link flow nothing is under way but it
        pub under-is : is_link_message m ≡ true → all.under ≡ Some (record { from = other (other dir); link = link; message = m })
        under-is e =
            let h = landed-is link_kind land.link dir all.under c land.rest (record { from = from; link = link; message = m }) (ap (λ p. kind_of link_kind p) is ∙ ap (λ b. if b then Some (record { from = from; link = link; message = m }) else None) e) ours.0 ours.1 (ap (λ (cs : List Placed). kind_messages link_kind cs) (sym land.front) ∙ carried.carried land.link dir land.alive) in
            h.0 ∙ ap (λ x. Some (record { from = x; link = link; message = m })) (ours.0 ∙ sym (twice dir))

        own : (v : Under) → kind_of link_kind c.post ≡ Some v → (v.from ≡ dir) × (v.link ≡ land.link)
        own v e = by (is_link_message m) (ap (λ p. kind_of link_kind p) (sym is) ∙ e)
          where
            by : (b : Bool) → (if b then Some (record { from = from; link = link; message = m }) else None) ≡ Some v → (v.from ≡ dir) × (v.link ≡ land.link)
            by true e = let s = some-is (record { from = from; link = link; message = m }) v e in (ap (λ (w : Under). w.from) (sym s) ∙ ours.0, ap (λ (w : Under). w.link) (sym s) ∙ ours.1)
            by false e = absurd (none-is v e)

        left-is : left_after (kind_of link_kind c.post) all.under ≡ left_by m all.under
        left-is = ap (λ p. left_after (kind_of link_kind p) all.under) is ∙ by (is_link_message m)
          where
            by : (b : Bool) → left_after (if b then Some (record { from = from; link = link; message = m }) else None) all.under ≡ (if b then None else all.under)
            by true = refl
            by false = refl

        abbrev answer : List Post
        answer = step_posts setup (other dir) link m past (llc_step (other dir) link m past (fabric past))

        landed : Draft past all.under (Deliver slot dir) (Landed c.at) answer
        landed actor cs bare = record {
          left = left_by m all.under;
          new = kind_in link_kind answer;
          grows = subst (λ f. Grows (fabric past) f) (sym after_is) (grows-does (other dir) link m (llc_step (other dir) link m past (fabric past)) (fabric past) all.under all.linked (both-stand link past alive));
          linked = subst (λ f. AreLinked f (option_or (kind_in link_kind answer) (left_by m all.under))) (sym after_is)
              (subst (λ o. AreLinked (does (other dir) link m (llc_step (other dir) link m past (fabric past)) (fabric past)) (option_or o (left_by m all.under))) (sym (link-in answer)) (lands setup past link (both-stand link past alive) all.under all.linked (other dir) m under-is));
          kept = λ w e. by (is_link_message m) w e;
          stays = λ l x live. landed-stays own l x live ∙ ap (λ o. carried_on l x o) left-is;
          one = one-before link_kind answer cs (step-one setup (other dir) link past m) bare;
          posted = kind-before link_kind answer cs bare;
          free = free (is_link_message m) refl;
          made = made-later (fabric past) (fabric (entry_of actor (Deliver slot dir) (Landed c.at) (answer ++ cs) ∷ past)) (answer ++ cs)
              (subst (λ f. Grows (fabric past) f) (sym after_is) (grows-does (other dir) link m (llc_step (other dir) link m past (fabric past)) (fabric past) all.under all.linked (both-stand link past alive)))
              (made-before (fabric past) answer cs (step-made setup (other dir) link past all.under all.linked (made-links past all.under all.linked link alive) m (llc_step (other dir) link m past (fabric past))) bare);
        }
          where
            after_is : lands_at (post_at c.at past) (other dir) past (fabric past) ≡ does (other dir) link m (llc_step (other dir) link m past (fabric past)) (fabric past)
            after_is = ap (λ o. lands_at o (other dir) past (fabric past)) (land.known ∙ ap Some is)

            by : (b : Bool) (w : Under) → (if b then None else all.under) ≡ Some w → all.under ≡ Some w
            by true w e = absurd (none-is w e)
            by false w e = e

            free : (b : Bool) → is_link_message m ≡ b → IsFree (entry_of actor (Deliver slot dir) (Landed c.at) (answer ++ cs) ∷ past) (if b then None else all.under) (kind_in link_kind answer)
            free true e = inr (λ w e. absurd (none-is w e))
            free false e = elim (step-free past all setup (other dir) link m e) [ inl h ↦ inl h | inr h ↦ inr (λ w e. absurd (none-is w (sym h ∙ e))) ]

    -- any delivery
    pub deliver : Draft past all.under (Deliver slot dir) (deliver_told setup payload (other dir) past (landing slot dir past)) (act_posts setup (other dir) past (act_of (other dir) (option_map (λ (c : Placed). c.post) (landing slot dir past)) past))
    deliver = by (landing slot dir past) refl
      where
        by : (o : Option Placed) → landing slot dir past ≡ o → Draft past all.under (Deliver slot dir) (deliver_told setup payload (other dir) past o) (act_posts setup (other dir) past (act_of (other dir) (option_map (λ (c : Placed). c.post) o) past))
        by None e = quiet (Deliver slot dir) Idle [] (λ x k. refl) (λ actor posts. refl) tt
        by (Some c) e = at c.post refl
          where
            land : IsLanding slot dir past c
            land = landing-is slot dir past c e

            other-post : (p : Post) → c.post ≡ p → ((f : Fabric) → lands_at (Some p) (other dir) past f ≡ f) → (actor : ℕ) (posts : List Post) → fabric (entry_of actor (Deliver slot dir) (Landed c.at) posts ∷ past) ≡ fabric past
            other-post p is same actor posts = ap (λ o. lands_at o (other dir) past (fabric past)) (land.known ∙ ap Some is) ∙ same (fabric past)

            at : (p : Post) → c.post ≡ p → Draft past all.under (Deliver slot dir) (lands_told setup payload (other dir) past c p) (act_posts setup (other dir) past (act_of (other dir) (Some p) past))
            at (Llc from link m) is = landed c land from link m is
            at (Write from link key address len) is = plain c land (Landed c.at) (λ x k. refl) (other-post (Write from link key address len) is (λ f. refl)) (ap (λ p. kind_of link_kind p) is)
            at (Clc from s link m) is = plain c land (Landed c.at) (λ x k. refl) (other-post (Clc from s link m) is (λ f. refl)) (ap (λ p. kind_of link_kind p) is)
            at (Cdc from link m) is = flip (is_some (record_of setup payload (other dir) m.token past))
              where
                flip : (b : Bool) → Draft past all.under (Deliver slot dir) (if b then Landed c.at else Dropped m.token) []
                flip true = plain c land (Landed c.at) (λ x k. refl) (other-post (Cdc from link m) is (λ f. refl)) (ap (λ p. kind_of link_kind p) is)
                flip false = plain c land (Dropped m.token) (λ x k. refl) (λ actor posts. refl) (ap (λ p. kind_of link_kind p) is)
