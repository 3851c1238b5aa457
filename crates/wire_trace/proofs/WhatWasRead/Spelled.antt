-- What was read of a frame is spelled as the frame.
use Rattle.std.proofs.Common.{◌≡◌, ◌∙◌, ℕ, zero, suc, ◌≤◌, ◌==◌, ◌&&◌, ◌||◌, Bool, true, false, if◌then◌else◌, nat_le, List, length, Option, Some, None, Result, Ok, Err, option_map, unwrap_or, bytes_eq, refl, sym, ap, subst, arith, take_all}
use Rattle.std.proofs.lemmas.Bool.{and_parts, leb-true, eqb-true, eqb-false, cond-false}
use Rattle.std.proofs.lemmas.Slice.Eq.{bytes_eq-Decides}
use Rattle.field_cases.specs.Fields.{number_at}
use Rattle.smc_num.specs.declared.LinkId.{LinkId}
use Rattle.smc_num.specs.Names.{no_link}
use Rattle.clc_wire.specs.declared.message.ClcMessage.{ClcMessage}
use Rattle.clc_wire.specs.declared.fault.ClcFault.{ClcFault}
use Rattle.clc_wire.specs.Clc.{clc_bytes, clc_front}
use Rattle.llc_wire.specs.declared.LlcMessage.{LlcMessage}
use Rattle.llc_wire.specs.declared.LlcFault.{LlcFault}
use Rattle.llc_wire.specs.Llc.{llc_bytes, llc_read}
use Rattle.cdc_wire.specs.declared.CdcMessage.{CdcMessage}
use Rattle.cdc_wire.specs.declared.CdcFault.{CdcFault}
use Rattle.cdc_wire.specs.Cdc.{cdc_bytes, cdc_read}
use Rattle.pipe_model.specs.declared.post.Post.{Post}
use Rattle.pipe_model.specs.declared.post.Post.TheVariants.{Cdc, Llc, Clc}
use Rattle.pipe_model.specs.History.{sender}
use Rattle.wire_trace.specs.declared.head.Head.{Head}
use Rattle.wire_trace.specs.Heads.{is_link, is_no_link, allows_post, allows_link, allows_length, is_allowed}
use Rattle.wire_trace.specs.Messages.{message_bytes, write_bytes, kind_of, side_code, side_of, link_told, socket_told, link_named, if_spelled, clc_if, clc_in, llc_if, llc_in, cdc_if, cdc_in, write_in, post_in}
use Rattle.wire_trace.proofs.WhatWasRead.Fitting.{AreSmall}
use Rattle.wire_trace.proofs.WhatWasRead.HeadsAgain.{four_at, eight_at, joined}

-- what `is_allowed` tells of a head
pub record Allowed (h : Head) : Type 0 where
  pub post_low : 1 ≤ h.at.post
  pub post_high : h.at.post ≤ 6
  pub kind_low : 1 ≤ h.kind
  pub kind_high : h.kind ≤ 4
  pub side_high : h.side ≤ 1
  pub link : allows_link h ≡ true
  pub len : allows_length h.kind h.len ≡ true

pub allowed : (h : Head) → is_allowed h ≡ true → Allowed h
allowed h e =
    let all = and_parts (allows_post h && allows_link h) (allows_length h.kind h.len) e in
    let two = and_parts (allows_post h) (allows_link h) all.0 in
    let side = and_parts (((nat_le 1 h.at.post && nat_le h.at.post 6) && nat_le 1 h.kind) && nat_le h.kind 4) (nat_le h.side 1) two.0 in
    let high = and_parts ((nat_le 1 h.at.post && nat_le h.at.post 6) && nat_le 1 h.kind) (nat_le h.kind 4) side.0 in
    let low = and_parts (nat_le 1 h.at.post && nat_le h.at.post 6) (nat_le 1 h.kind) high.0 in
    let post = and_parts (nat_le 1 h.at.post) (nat_le h.at.post 6) low.0 in
    record {
      post_low = leb-true 1 h.at.post post.0;
      post_high = leb-true h.at.post 6 post.1;
      kind_low = leb-true 1 h.kind low.1;
      kind_high = leb-true h.kind 4 high.1;
      side_high = leb-true h.side 1 side.1;
      link = two.1;
      len = all.1;
    }

-- with another kind than CLC there is no socket
no_socket : (h : Head) → Allowed h → (h.kind == 1) ≡ false → 0 ≡ h.socket
no_socket h a other =
    let both = and_parts (is_link h.link) (h.socket == 0) (sym (cond-false (h.kind == 1) (is_link h.link || is_no_link h.link) (is_link h.link && (h.socket == 0)) other) ∙ a.link) in
    sym (eqb-true h.socket 0 both.1)

side_again : (code : ℕ) → code ≤ 1 → side_code (side_of code) ≡ code
side_again zero low = refl
side_again (suc zero) low = refl
side_again (suc (suc n)) low = absurd (omega (arith, low))

link_again : (link : LinkId) → unwrap_or (link_named link) no_link ≡ link
link_again link = by (is_no_link link) refl
  where
    by : (b : Bool) → is_no_link link ≡ b → unwrap_or (if b then None else Some link) no_link ≡ link
    by true e =
        let all = and_parts ((link.slot == 0) && (link.group == 0)) (link.incarnation == 0) e in
        let two = and_parts (link.slot == 0) (link.group == 0) all.0 in
        λ i. record { group = sym (eqb-true link.group 0 two.1) i; slot = sym (eqb-true link.slot 0 two.0) i; incarnation = sym (eqb-true link.incarnation 0 all.1) i }
    by false e = refl

-- a post is spelled by the bytes behind a head, and has that head
pub record Spelled (h : Head) (bytes : List ℕ) (post : Post) : Type 0 where
  pub message : message_bytes post ≡ bytes
  pub kind : kind_of post ≡ h.kind
  pub side : side_code (sender post) ≡ h.side
  pub link : link_told post ≡ h.link
  pub socket : socket_told post ≡ h.socket

spelled_as : {M : Type 0} (spelling : M → List ℕ) (bytes : List ℕ) (m n : M) → if_spelled spelling bytes m ≡ Some n → spelling n ≡ bytes
spelled_as {M} spelling bytes m n = by (bytes_eq (spelling m) bytes) refl
  where
    by : (b : Bool) → bytes_eq (spelling m) bytes ≡ b → (if b then Some m else None) ≡ Some n → spelling n ≡ bytes
    by true e f = ap spelling (ap (λ o. unwrap_or o m) (sym f)) ∙ (bytes_eq-Decides (spelling m) bytes).0 e
    by false e f = absurd (cc)

pub clc_as : (bytes : List ℕ) (read : Result (ClcMessage × ℕ) ClcFault) (m : ClcMessage) → clc_if bytes read ≡ Some m → clc_bytes m ≡ bytes
clc_as bytes (Ok found) m e = spelled_as clc_bytes bytes found.0 m e
clc_as bytes (Err fault) m e = absurd (cc)

llc_as : (bytes : List ℕ) (read : Result LlcMessage LlcFault) (m : LlcMessage) → llc_if bytes read ≡ Some m → llc_bytes m ≡ bytes
llc_as bytes (Ok found) m e = spelled_as llc_bytes bytes found m e
llc_as bytes (Err fault) m e = absurd (cc)

cdc_as : (bytes : List ℕ) (read : Result CdcMessage CdcFault) (m : CdcMessage) → cdc_if bytes read ≡ Some m → cdc_bytes m ≡ bytes
cdc_as bytes (Ok found) m e = spelled_as cdc_bytes bytes found m e
cdc_as bytes (Err fault) m e = absurd (cc)

-- the message that a post was made of
pub made_of : {M : Type 0} (f : M → Post) (o : Option M) (post : Post) → option_map f o ≡ Some post → (m : M) × (o ≡ Some m) × (f m ≡ post)
made_of f None post e = absurd (cc)
made_of f (Some m) post e = (m, refl, ap (λ o. unwrap_or o post) e)

module _ (h : Head) (bytes : List ℕ) (post : Post) (a : Allowed h) where
  side_here : side_code (side_of h.side) ≡ h.side
  side_here = side_again h.side a.side_high

  clc_spelled : h.kind ≡ 1 → option_map (λ m. Clc (side_of h.side) h.socket (link_named h.link) m) (clc_in bytes) ≡ Some post → Spelled h bytes post
  clc_spelled k e =
      let made = made_of (λ m. Clc (side_of h.side) h.socket (link_named h.link) m) (clc_in bytes) post e in
      subst (Spelled h bytes) made.2 (record { message = clc_as bytes (clc_front bytes) made.0 made.1; kind = sym k; side = side_here; link = link_again h.link; socket = refl })

  llc_spelled : h.kind ≡ 2 → (h.kind == 1) ≡ false → option_map (λ m. Llc (side_of h.side) h.link m) (llc_in bytes) ≡ Some post → Spelled h bytes post
  llc_spelled k other e =
      let made = made_of (λ m. Llc (side_of h.side) h.link m) (llc_in bytes) post e in
      subst (Spelled h bytes) made.2 (record { message = llc_as bytes (llc_read bytes) made.0 made.1; kind = sym k; side = side_here; link = refl; socket = no_socket h a other })

  cdc_spelled : h.kind ≡ 3 → (h.kind == 1) ≡ false → option_map (λ m. Cdc (side_of h.side) h.link m) (cdc_in bytes) ≡ Some post → Spelled h bytes post
  cdc_spelled k other e =
      let made = made_of (λ m. Cdc (side_of h.side) h.link m) (cdc_in bytes) post e in
      subst (Spelled h bytes) made.2 (record { message = cdc_as bytes (cdc_read bytes) made.0 made.1; kind = sym k; side = side_here; link = refl; socket = no_socket h a other })

  write_as : AreSmall bytes → length bytes ≡ 16 → write_bytes (number_at 4 0 bytes) (number_at 8 4 bytes) (number_at 4 12 bytes) ≡ bytes
  write_as small long =
      joined 12 4 bytes _ _ (joined 4 8 bytes _ _ (four_at bytes small 0 (omega (arith, long))) (eight_at bytes small 4 (omega (arith, long)))) (four_at bytes small 12 (omega (arith, long)))
      ∙ take_all 16 bytes (omega (arith, long))

  write_spelled : AreSmall bytes → length bytes ≡ 16 → h.kind ≡ 4 → (h.kind == 1) ≡ false → Some (write_in h bytes) ≡ Some post → Spelled h bytes post
  write_spelled small long k other e =
      subst (Spelled h bytes) (ap (λ o. unwrap_or o post) e) (record { message = write_as small long; kind = sym k; side = side_here; link = refl; socket = no_socket h a other })

above_three : (n : ℕ) → 1 ≤ n → n ≤ 4 → (n ≡ 1 → ⊥) → (n ≡ 2 → ⊥) → (n ≡ 3 → ⊥) → n ≡ 4
above_three zero low high a b c = absurd (omega (arith, low))
above_three (suc zero) low high a b c = absurd (a refl)
above_three (suc (suc zero)) low high a b c = absurd (b refl)
above_three (suc (suc (suc zero))) low high a b c = absurd (c refl)
above_three (suc (suc (suc (suc zero)))) low high a b c = refl
above_three (suc (suc (suc (suc (suc n))))) low high a b c = absurd (omega (arith, high))

sixteen : (h : Head) → Allowed h → h.kind ≡ 4 → h.len ≡ 16
sixteen h a k = eqb-true h.len 16 (sym (ap (λ n. allows_length n h.len) k) ∙ a.len)

pub spelled : (h : Head) (bytes : List ℕ) (post : Post) → Allowed h → AreSmall bytes → length bytes ≡ h.len → post_in h bytes ≡ Some post → Spelled h bytes post
unfolding post_in
spelled h bytes post a small long = by (h.kind == 1) (h.kind == 2) (h.kind == 3) refl refl refl
  where
    by : (b c d : Bool) → (h.kind == 1) ≡ b → (h.kind == 2) ≡ c → (h.kind == 3) ≡ d
        → (if b then option_map (λ m. Clc (side_of h.side) h.socket (link_named h.link) m) (clc_in bytes) else
        if c then option_map (λ m. Llc (side_of h.side) h.link m) (llc_in bytes) else
        if d then option_map (λ m. Cdc (side_of h.side) h.link m) (cdc_in bytes) else Some (write_in h bytes)) ≡ Some post
        → Spelled h bytes post
    by true c d e f g r = clc_spelled h bytes post a (eqb-true h.kind 1 e) r
    by false true d e f g r = llc_spelled h bytes post a (eqb-true h.kind 2 f) e r
    by false false true e f g r = cdc_spelled h bytes post a (eqb-true h.kind 3 g) e r
    by false false false e f g r =
        let four : h.kind ≡ 4 = above_three h.kind a.kind_low a.kind_high (eqb-false h.kind 1 e) (eqb-false h.kind 2 f) (eqb-false h.kind 3 g) in
        write_spelled h bytes post a small (long ∙ sixteen h a four) four e r
