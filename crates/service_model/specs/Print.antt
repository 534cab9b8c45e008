-- What a run prints: each client's answered lines, and then the serials of each live file.
use Rattle.std.specs.Prelude.{ℕ, ◌+◌, List, [], ◌∷◌, ◌++◌, if◌then◌else◌, codes}
use Rattle.std.specs.Fmt.{decimal}
use Rattle.std.specs.List.{flat_map}
use Rattle.script_text.specs.ReplyText.{reply_text, spaced}
use Rattle.script_text.specs.declared.reply.LineReply.{LineReply}
use Rattle.script_text.specs.declared.script.Line.{Line}
use Rattle.tree_model.specs.States.{File, is_live, serials_of}
use Rattle.service_model.specs.Standing.{Scripts, Standing, Client}

-- one answered line: the client, a point, the line's number, a space, the answer and a line feed
abbrev pub answer_text : ℕ → ℕ → LineReply → List ℕ
answer_text k n reply = decimal k ++ (codes "." ++ (decimal n ++ (codes " " ++ (reply_text reply ++ 10 ∷ []))))

-- the answered lines of one client
abbrev pub client_text : ℕ → List Line → List LineReply → List ℕ
client_text k [] replies = []
client_text k (line ∷ lines) [] = []
client_text k (line ∷ lines) (reply ∷ replies) = answer_text k line.number reply ++ client_text k lines replies

-- those of all clients, the first of which has this number
abbrev pub clients_text : ℕ → Scripts → List Client → List ℕ
clients_text k [] clients = []
clients_text k (script ∷ scripts) [] = []
clients_text k (script ∷ scripts) (c ∷ clients) = client_text k script.lines c.answers ++ clients_text (k + 1) scripts clients

-- the line of a live file: its object and the serials that are kept
abbrev pub file_text : ℕ → File → List ℕ
file_text object file =
    if is_live file
    then codes "file " ++ (decimal object ++ (codes ":" ++ (flat_map spaced (serials_of file) ++ 10 ∷ [])))
    else []

-- the lines of these files, the first of which is this object
abbrev pub files_text : ℕ → List File → List ℕ
files_text object [] = []
files_text object (file ∷ files) = file_text object file ++ files_text (object + 1) files

-- the answered lines
abbrev pub answers_printed : Scripts → Standing → List ℕ
answers_printed scripts s = clients_text 1 scripts s.clients

-- all that a run prints
abbrev pub printed : Scripts → Standing → List ℕ
printed scripts s = answers_printed scripts s ++ files_text 1 s.state.files
