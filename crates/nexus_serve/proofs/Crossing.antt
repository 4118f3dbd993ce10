-- What may go to another thread.
use denote.RattleType.{RattleType}
use denote.Param.Send.{IsSend, sendable}
use denote.Param.SendFields.{declared_send, variants_send}
use Rattle.std.proofs.Crossing.{crosses, Box-send}
use Rattle.indexmap.proofs.map.IndexMap.TheSendSync.{the_send as map_send}
use Rattle.indexmap.proofs.set.IndexSet.TheSendSync.{the_send as set_send}
use Rattle.keyed_hash.proofs.key.KeyedHash.TheSendSync.{the_send as hasher_send}
use Rattle.nal_term.specs.contracts.terms.Args as Args
use Rattle.nal_term.specs.contracts.terms.Term as Term
use Rattle.nal_term.specs.contracts.formulas.Formula as Formula
use Rattle.nal_term.proofs.names.Name.TheSendSync.{the_send as name_send}
use Rattle.nal_term.proofs.scopes.Scope.TheSendSync.{the_send as scope_send}
use Rattle.nal_term.proofs.terms.Term.TheLaws.TheKnot.{crosses as term_crosses}
use Rattle.nal_term.proofs.formulas.Formula.TheLaws.TheKnot.{send-Formula}
use Rattle.nal_term.proofs.secrets.Secret.TheSendSync.{the_send as secret_send}
use Rattle.proof_lines.specs.contracts.proofs.Proof as Proof
use Rattle.proof_lines.proofs.lines.Refs.TheSendSync.{the_send as refs_send}
use Rattle.proof_lines.proofs.rules.Rule.TheSendSync.{the_send as rule_send}
use Rattle.label_store.proofs.rows.Holding.TheSendSync.{the_send as holding_send}
use Rattle.proof_lines.specs.contracts.lines.Line as Line
use Rattle.label_store.specs.contracts.labels.LabelStore as LabelStore
use Rattle.goal_store.specs.contracts.goals.GoalStore as GoalStore
use Rattle.proof_store.specs.contracts.cases.ProofStore as ProofStore
use Rattle.object_table.proofs.objects.ObjectTable.TheSendSync.{the_send as objects_send}
use Rattle.nx_io.specs.contracts.byte_list.Bytes as Bytes
use Rattle.policy_history.specs.contracts.heads.Principal as Principal
use Rattle.policy_history.specs.contracts.heads.Authority as Authority
use Rattle.policy_history.specs.contracts.heads.Principals as Principals
use Rattle.policy_history.specs.contracts.heads.Authorities as Authorities
use Rattle.policy_history.specs.contracts.heads.Head as Head
use Rattle.policy_history.specs.contracts.events.Event as Event
use Rattle.policy_history.specs.contracts.events.Entry as Entry
use Rattle.policy_history.specs.contracts.tables.Policy as Policy
use Rattle.policy_history.specs.contracts.journal.Journal as Journal
use Rattle.nx_io.specs.declared.streams.Sink as sink
use Rattle.std.proofs.sync.ledger.Book.TheSendSync.{the_send as tickets_send}
use Rattle.policy_book.specs.declared.naming.BookNaming as naming
use Rattle.std.specs.declared.sync.ledger.Ledger as ledger
use Rattle.std.specs.contracts.option.Option as Option
use Rattle.std.specs.contracts.sync.Mutex as Mutex
use Rattle.std.proofs.sync.ledger.Share.TheSendSync.{the_send as share_send}
use Rattle.policy_book.specs.contracts.seated.SeatedJournal as SeatedJournal
use Rattle.policy_book.specs.contracts.pens.Pen as Pen
use Rattle.policy_book.specs.contracts.shelf.Shelf as Shelf
use Rattle.policy_book.specs.contracts.turns.Turn as Turn
use Rattle.verdict_words.proofs.seat.BookSeat.TheSendSync.{the_send as seat_send}
use Rattle.verdict_words.proofs.mark.Mark.TheSendSync.{the_send as mark_send}
use Rattle.verdict_words.proofs.board.Board.TheSendSync.{the_sync as board_sync}
use Rattle.verdict_words.specs.contracts.board.Board as Board
use Rattle.policy_book.specs.contracts.matter.NalMatter as NalMatter
use Rattle.policy_book.specs.contracts.matter.NalMatterMatter.TheImpl.{ghosts as matter}
use denote.Param.Send.{IsSync}

pub term_send : IsSend Term.the_row
term_send = search (term_crosses, crosses, sendable, name_send) depth 12

pub args_send : IsSend Args.the_row
args_send = search (term_send, crosses, declared_send, sendable) depth 12

formula_field_send : IsSend (Formula.the_field).row
formula_field_send = send-Formula (search (name_send, sendable, crosses)) (search (args_send, sendable, crosses)) (search sendable) (search (term_crosses, crosses, sendable, name_send) depth 12) Box-send (search (scope_send, sendable))

pub formula_send : IsSend Formula.the_row
formula_send = search (formula_field_send, sendable)

pub line_send : IsSend Line.the_row
line_send = search (refs_send, rule_send, formula_send, term_send, crosses, declared_send, variants_send, sendable) depth 12

pub proof_send : IsSend Proof.the_row
proof_send = search (line_send, crosses, declared_send, sendable) depth 12

pub labels_send : IsSend LabelStore.the_row
labels_send = search (formula_send, holding_send, map_send, set_send, hasher_send, crosses, declared_send, sendable) depth 30 fits 5000

pub goals_send : IsSend GoalStore.the_row
goals_send = search (formula_send, term_send, name_send, map_send, set_send, hasher_send, crosses, declared_send, sendable) depth 30 fits 5000

pub proofs_send : IsSend ProofStore.the_row
proofs_send = search (proof_send, name_send, map_send, set_send, hasher_send, crosses, declared_send, sendable) depth 30 fits 5000

pub bytes_send : IsSend Bytes.the_row
bytes_send = search (crosses, declared_send, sendable) depth 12

pub principal_send : IsSend Principal.the_row
principal_send = search (name_send, secret_send, crosses, declared_send, sendable) depth 12

pub authority_send : IsSend Authority.the_row
authority_send = search (bytes_send, crosses, declared_send, sendable) depth 12

pub principals_send : IsSend Principals.the_row
principals_send = search (principal_send, name_send, set_send, hasher_send, crosses, declared_send, sendable) depth 30 fits 5000

pub authorities_send : IsSend Authorities.the_row
authorities_send = search (authority_send, crosses, declared_send, sendable) depth 12

pub head_send : IsSend Head.the_row
head_send = search (principals_send, authorities_send, crosses, declared_send, sendable) depth 12

pub event_send : IsSend Event.the_row
event_send = search (proof_send, term_send, formula_send, name_send, crosses, variants_send, declared_send, sendable) depth 30 fits 5000

pub entry_send : IsSend Entry.the_row
entry_send = search (event_send, declared_send, sendable) depth 30 fits 5000

pub policy_send : IsSend Policy.the_row
policy_send = search (labels_send, goals_send, proofs_send, objects_send, crosses, declared_send, sendable) depth 30 fits 5000

pub journal_send : IsSend Journal.the_row
journal_send = search (head_send, entry_send, policy_send, crosses, declared_send, sendable) depth 30 fits 5000

pub seated_send : IsSend SeatedJournal.the_row
seated_send = search (journal_send, seat_send, crosses, declared_send, sendable) depth 30 fits 5000

pub turn_send : (W : RattleType) (w : ledger.Ghosts W.Denot) → IsSend (Turn.the_row W w)
turn_send W w = search (share_send, crosses, declared_send, sendable) depth 30 fits 5000

pub turn_sync : (W : RattleType) (w : ledger.Ghosts W.Denot) → IsSync (Mutex.the_row (Turn.the_row W w))
turn_sync W w = search (turn_send, crosses, sendable) depth 12

module _ (K : RattleType) (g : sink.Ghosts K.Denot) where
  pub pen_send : IsSend K → IsSend (Pen.the_row K)
  pen_send s = search (mark_send, crosses, declared_send, sendable) depth 30 fits 5000

  pub pen_in_send : IsSend K → IsSend (Option.the_row (Pen.the_row K))
  pen_in_send s = let p = pen_send s in search (p, variants_send, crosses, sendable) depth 12

  module _ (N T W : RattleType) (n : naming.Ghosts N.Denot) (t : ledger.Ghosts T.Denot) (w : ledger.Ghosts W.Denot) (s : IsSend K) where
    pub shelf_send : IsSend (Shelf.the_row K N T W g n t w)
    shelf_send = let p = pen_in_send s in search (seated_send, tickets_send, crosses, declared_send, sendable) depth 30 fits 20000

    pub shelf_sync : IsSync (Mutex.the_row (Shelf.the_row K N T W g n t w))
    shelf_sync = search (shelf_send, crosses, sendable) depth 12

pub nal_board_sync : IsSync (Board.the_row NalMatter.the_row Entry.the_row Head.the_row matter)
nal_board_sync = search (board_sync, entry_send, head_send, crosses, declared_send, sendable) depth 30 fits 5000
