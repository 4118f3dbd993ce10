-- How a talk goes on, exchange by exchange.
use Rattle.std.proofs.Common.{◌≡◌, ◌<◌, ℕ, List, [], ◌∷◌, ◌++◌, suc, ◌+◌, length, take, drop, get_or, Bool, false, Some, None, refl, sym, ap, ◌∙◌, subst, append_assoc, add-one, drop-cons, arith}
use Rattle.std.specs.declared.option.Option.{Option}
use Rattle.std.proofs.lemmas.List.{append-nil}
use Rattle.nx_io.specs.Streams.{Sends, SendsPart, gained}
use Rattle.nx_io.proofs.ForCallers.{gained-by}
use Rattle.session_wire.specs.declared.replies.Reply.{Reply}
use Rattle.session_wire.specs.Answers.{over_after_taking}
use Rattle.session_wire.specs.Frames.{IsReplyFrameOf, reply_frame}
use Rattle.session_wire.specs.Replies.{IsReplyPart}
use Rattle.session_wire.specs.Replies as answer
use Rattle.nexus_client.specs.declared.ends.TalkEnd.{TalkEnd}
use Rattle.nexus_client.specs.declared.ends.TalkEnd.TheVariants as end
use Rattle.nexus_client.specs.Talks.{Talks, written_line}
use Rattle.nexus_client.specs.Talks as talk
use Rattle.nexus_client.specs.Inner.Talking.{Exchanges, IsWritten, TalksMore}

-- bytes do not end a link that is not over
pub not_over : (gain : List ℕ) (over : Bool) → over ≡ false → over_after_taking gain over ≡ false
not_over [] over e = e
not_over (b ∷ bs) over e = refl

-- no byte is a part of a reply
pub nothing_is_part : (gain : List ℕ) → gain ≡ [] → IsReplyPart gain
nothing_is_part gain e = answer.few (omega (arith, ap length e))

-- the same talk, told by equal bytes
same_talk : (requests : List (List ℕ)) (s t w s2 t2 w2 : List ℕ) (o o2 : Bool) (e : TalkEnd) → s2 ≡ s → t2 ≡ t → w2 ≡ w → o2 ≡ o → Talks requests s t w o e → Talks requests s2 t2 w2 o2 e
same_talk requests s t w s2 t2 w2 o o2 e a b c d h =
    subst (λ (x : List ℕ). Talks requests x t2 w2 o2 e) (sym a)
    (subst (λ (x : List ℕ). Talks requests s x w2 o2 e) (sym b)
    (subst (λ (x : List ℕ). Talks requests s t x o2 e) (sym c)
    (subst (λ (x : Bool). Talks requests s t w x e) (sym d) h)))

module _ (request sent sent_now taken taken_now written : List ℕ) (over : Bool) where
  -- the link failed while the request was sent
  pub sending_failed : SendsPart sent sent_now request → taken_now ≡ taken → over ≡ false → Exchanges (Some end.Broken) request sent sent_now taken taken_now written written over
  sending_failed part t o = record {
    sent_more = take part.0 request;
    taken_more = [];
    written_more = [];
    sent_is = part.2;
    taken_is = t ∙ sym (append-nil taken);
    written_is = sym (append-nil written);
    passes = λ requests. same_talk (request ∷ requests) _ _ _ (take part.0 request) [] [] false over end.Broken refl refl refl o (talk.unsent request part.0 part.1);
  }

  -- the request was sent, and the talk ended while its reply was taken
  pub taking_ended : (gain : List ℕ) (e : TalkEnd) → Sends sent sent_now request → taken_now ≡ taken ++ gain
      → ((requests : List (List ℕ)) → Talks (request ∷ requests) request gain [] over e) → Exchanges (Some e) request sent sent_now taken taken_now written written over
  taking_ended gain e s t h = record {
    sent_more = request;
    taken_more = gain;
    written_more = [];
    sent_is = s;
    taken_is = t;
    written_is = sym (append-nil written);
    passes = h;
  }

  -- a whole reply was taken, and its line written or not
  pub answering : (written_now gain : List ℕ) (e : Option TalkEnd) (reply : Reply) → Sends sent sent_now request → taken_now ≡ taken ++ gain → IsReplyFrameOf reply gain → over ≡ false
      → IsWritten e reply written written_now → Exchanges e request sent sent_now taken taken_now written written_now over
  answering written_now gain None reply s t r o w = record {
    sent_more = request;
    taken_more = gain;
    written_more = written_line reply;
    sent_is = s;
    taken_is = t;
    written_is = w;
    passes = record { reply = reply; fits = r.0; sent_is = refl; taken_is = r.1; written_is = refl; over_is = o };
  }
  answering written_now gain (Some end.Unwritten) reply s t r o w = record {
    sent_more = request;
    taken_more = gain;
    written_more = take w.0 (written_line reply);
    sent_is = s;
    taken_is = t;
    written_is = w.2;
    passes = λ requests. same_talk (request ∷ requests) request (reply_frame reply) _ request gain _ false over end.Unwritten refl r.1 refl o (talk.unwritten request reply w.0 r.0 w.1);
  }
  answering written_now gain (Some end.Memory) reply s t r o w = record {
    sent_more = request;
    taken_more = gain;
    written_more = [];
    sent_is = s;
    taken_is = t;
    written_is = w ∙ sym (append-nil written);
    passes = λ requests. same_talk (request ∷ requests) request (reply_frame reply) [] request gain [] false over end.Memory refl r.1 refl o (talk.no_memory request reply r.0);
  }
  answering written_now gain (Some end.Done) reply s t r o w = absurd w
  answering written_now gain (Some end.Unreached) reply s t r o w = absurd w
  answering written_now gain (Some end.Broken) reply s t r o w = absurd w
  answering written_now gain (Some end.Ended) reply s t r o w = absurd w

-- within a talk: what passed so far, and that any talk about the other requests goes on from there
pub record IsTalking (requests rest : List (List ℕ)) (sent sent_now taken taken_now written written_now : List ℕ) : Type 0 where
  pub sent_more : List ℕ
  pub taken_more : List ℕ
  pub written_more : List ℕ
  pub sent_is : sent_now ≡ sent ++ sent_more
  pub taken_is : taken_now ≡ taken ++ taken_more
  pub written_is : written_now ≡ written ++ written_more
  pub goes_on : (s t w : List ℕ) (over : Bool) (e : TalkEnd) → Talks rest s t w over e → Talks requests (sent_more ++ s) (taken_more ++ t) (written_more ++ w) over e

pub talking_first : (requests : List (List ℕ)) (sent taken written : List ℕ) → IsTalking requests requests sent sent taken taken written written
talking_first requests sent taken written = record {
  sent_more = [];
  taken_more = [];
  written_more = [];
  sent_is = sym (append-nil sent);
  taken_is = sym (append-nil taken);
  written_is = sym (append-nil written);
  goes_on = λ s t w over e h. h;
}

-- two pieces behind one another
then : (old now new a b : List ℕ) → now ≡ old ++ a → new ≡ now ++ b → new ≡ old ++ (a ++ b)
then old now new a b e f = f ∙ ap (λ (xs : List ℕ). xs ++ b) e ∙ append_assoc old a b

module _ (requests rest : List (List ℕ)) (request sent s1 s2 taken t1 t2 written w1 w2 : List ℕ) (over : Bool) (so : IsTalking requests (request ∷ rest) sent s1 taken t1 written w1) where
  -- one request more was answered
  pub talking_more : Exchanges None request s1 s2 t1 t2 w1 w2 over → IsTalking requests rest sent s2 taken t2 written w2
  talking_more x =
      let a = x.passes in
      record {
        sent_more = so.sent_more ++ x.sent_more;
        taken_more = so.taken_more ++ x.taken_more;
        written_more = so.written_more ++ x.written_more;
        sent_is = then sent s1 s2 so.sent_more x.sent_more so.sent_is x.sent_is;
        taken_is = then taken t1 t2 so.taken_more x.taken_more so.taken_is x.taken_is;
        written_is = then written w1 w2 so.written_more x.written_more so.written_is x.written_is;
        goes_on = λ s t w o e h.
            same_talk requests _ _ _ ((so.sent_more ++ x.sent_more) ++ s) ((so.taken_more ++ x.taken_more) ++ t) ((so.written_more ++ x.written_more) ++ w) o o e
            (append_assoc so.sent_more x.sent_more s ∙ ap (λ (xs : List ℕ). so.sent_more ++ (xs ++ s)) a.sent_is)
            (append_assoc so.taken_more x.taken_more t ∙ ap (λ (xs : List ℕ). so.taken_more ++ (xs ++ t)) a.taken_is)
            (append_assoc so.written_more x.written_more w ∙ ap (λ (xs : List ℕ). so.written_more ++ (xs ++ w)) a.written_is)
            refl
            (so.goes_on (request ++ s) (reply_frame a.reply ++ t) (written_line a.reply ++ w) o e (talk.answered request a.reply a.fits h));
      }

  -- the talk ended with this request
  pub talking_ends : (e : TalkEnd) → Exchanges (Some e) request s1 s2 t1 t2 w1 w2 over → TalksMore e requests sent s2 taken t2 written w2 over
  talking_ends e x = record {
    sent_more = so.sent_more ++ x.sent_more;
    taken_more = so.taken_more ++ x.taken_more;
    written_more = so.written_more ++ x.written_more;
    sent_is = then sent s1 s2 so.sent_more x.sent_more so.sent_is x.sent_is;
    taken_is = then taken t1 t2 so.taken_more x.taken_more so.taken_is x.taken_is;
    written_is = then written w1 w2 so.written_more x.written_more so.written_is x.written_is;
    talks = so.goes_on x.sent_more x.taken_more x.written_more over e (x.passes rest);
  }

-- all requests were answered
pub talking_done : (requests : List (List ℕ)) (sent s1 taken t1 written w1 : List ℕ) (over : Bool) → IsTalking requests [] sent s1 taken t1 written w1 → over ≡ false
    → TalksMore end.Done requests sent s1 taken t1 written w1 over
talking_done requests sent s1 taken t1 written w1 over so o = record {
  sent_more = so.sent_more;
  taken_more = so.taken_more;
  written_more = so.written_more;
  sent_is = so.sent_is;
  taken_is = so.taken_is;
  written_is = so.written_is;
  talks = same_talk requests _ _ _ so.sent_more so.taken_more so.written_more false over end.Done (sym (append-nil so.sent_more)) (sym (append-nil so.taken_more)) (sym (append-nil so.written_more)) o
      (so.goes_on [] [] [] false end.Done talk.done);
}

-- the next request, and the others
pub next_request : (requests : List (List ℕ)) (i : ℕ) (request : List ℕ) → i < length requests → request ≡ get_or requests i request → drop i requests ≡ request ∷ drop (i + 1) requests
next_request requests i request below e =
    rw (add-one i) (drop-cons requests i request below ∙ ap (λ (x : List ℕ). x ∷ drop (suc i) requests) (sym e))

-- what passed in a talk over a fresh link, which is closed then
pub talks_told : (e : TalkEnd) (requests : List (List ℕ)) (sent s1 s2 taken t1 t2 written w1 : List ℕ) (over o2 : Bool) → TalksMore e requests sent s1 taken t1 written w1 over → sent ≡ [] → taken ≡ []
    → s2 ≡ s1 → t2 ≡ t1 → o2 ≡ over → Talks requests s2 t2 (gained written w1) o2 e
talks_told e requests sent s1 s2 taken t1 t2 written w1 over o2 m s t a b c =
    same_talk requests m.sent_more m.taken_more m.written_more s2 t2 (gained written w1) over o2 e (a ∙ m.sent_is ∙ ap (λ (xs : List ℕ). xs ++ m.sent_more) s)
    (b ∙ m.taken_is ∙ ap (λ (xs : List ℕ). xs ++ m.taken_more) t) (gained-by written w1 m.written_more m.written_is) c m.talks
