-- The bytes of each response: a status line, the fields, an empty line and the body.
use Rattle.std.specs.Prelude.{◌≡◌, ℕ, ◌⊎◌, Bool, true, ◌==◌, List, [], ◌∷◌, ◌++◌, length, codes, if◌then◌else◌, unwrap_or, ⊤}
use Rattle.std.specs.Fmt.{decimal}
use Rattle.http.specs.StatusCode.{reason_phrase}
use Rattle.ldar_law.specs.declared.reply.Reply.{Reply}
use Rattle.ldar_law.specs.declared.reply.Reply.TheVariants.{Receipt, Conflict, Denied, Full, Shown, NoSuch, Fault, Memory}
use Rattle.ldar_law.specs.Replies.{reply_text, what_text, HasRule}
use Rattle.ldar_law.specs.Texts.{end_of_line}
use Rattle.handheld_http.specs.declared.answer.Refusal.{Refusal}
use Rattle.handheld_http.specs.declared.answer.Refusal.TheVariants.{BadBatch, NoPath, NoMethod, NoSuch as NoneSuch}
use Rattle.handheld_http.specs.declared.answer.Answer.{Answer}
use Rattle.handheld_http.specs.declared.answer.Answer.TheVariants.{Reply as ToRequest, Not, Status}

-- ---- status codes (RFC 9110, section 15)

abbrev pub reply_status : Reply → ℕ
reply_status (Receipt handheld number position) = 200
reply_status (Conflict position) = 409
reply_status (Denied fact rule) = 422
reply_status (Full facts) = 422
reply_status (Shown text) = 200
reply_status (NoSuch what) = 404
reply_status Fault = 503
reply_status Memory = 507

abbrev pub refusal_status : Refusal → ℕ
refusal_status BadBatch = 400
refusal_status NoPath = 404
refusal_status (NoMethod post) = 405
refusal_status (NoneSuch what) = 404

abbrev pub status_of : Answer → ℕ
status_of (ToRequest reply) = reply_status reply
status_of (Not refusal) = refusal_status refusal
status_of (Status status) = status

-- ---- bodies

abbrev pub refusal_text : Refusal → List ℕ
refusal_text BadBatch = codes "bad request" ++ end_of_line
refusal_text NoPath = codes "no such path" ++ end_of_line
refusal_text (NoMethod post) = codes "no such method" ++ end_of_line
refusal_text (NoneSuch what) = codes "no such " ++ what_text what ++ end_of_line

-- the body of a response with which bytes are refused
abbrev pub status_line : ℕ → List ℕ
status_line status =
    if status == 400 then codes "bad request" ++ end_of_line
    else if status == 411 then codes "length needed" ++ end_of_line
    else if status == 413 then codes "too large" ++ end_of_line
    else if status == 431 then codes "head too large" ++ end_of_line
    else codes "not implemented" ++ end_of_line

abbrev pub body_of : Answer → List ℕ
body_of (ToRequest reply) = reply_text reply
body_of (Not refusal) = refusal_text refusal
body_of (Status status) = status_line status

-- ---- fields

abbrev pub crlf : List ℕ
crlf = 13 ∷ 10 ∷ []

abbrev pub allow_post : Bool → List ℕ
allow_post post = if post then codes "Allow: POST\r\n" else codes "Allow: GET\r\n"

-- the method of a path, if the request used another one
abbrev pub allow_of : Answer → List ℕ
allow_of (ToRequest reply) = []
allow_of (Not BadBatch) = []
allow_of (Not NoPath) = []
allow_of (Not (NoMethod post)) = allow_post post
allow_of (Not (NoneSuch what)) = []
allow_of (Status status) = []

-- after refused bytes nothing more is read
abbrev pub is_last : Answer → Bool → Bool
is_last (ToRequest reply) closing = closing
is_last (Not refusal) closing = closing
is_last (Status status) closing = true

abbrev pub connection_of : Bool → List ℕ
connection_of last = if last then codes "Connection: close\r\n" else []

-- the phrase of a status
unfoldable pub phrase_of : ℕ → List ℕ
phrase_of status = unwrap_or (reason_phrase status) []

-- the status line, and the fields that each response has
abbrev pub common_head : ℕ → ℕ → List ℕ
common_head status length =
    codes "HTTP/1.1 " ++ decimal status ++ codes " " ++ phrase_of status ++ codes "\r\nContent-Type: text/plain\r\nContent-Length: "
    ++ decimal length ++ crlf

-- a response up to and including its empty line, for a body of this length
abbrev pub response_head : ℕ → List ℕ → Bool → ℕ → List ℕ
response_head status allow last length = common_head status length ++ allow ++ connection_of last ++ crlf

-- the bytes of a response
unfoldable pub response : ℕ → List ℕ → Bool → List ℕ → List ℕ
response status allow last body = response_head status allow last (length body) ++ body

-- the bytes of an answer to a request, which may close the connection
abbrev pub answer_bytes : Answer → Bool → List ℕ
answer_bytes answer closing = response (status_of answer) (allow_of answer) (is_last answer closing) (body_of answer)

-- ---- which answers are sent

-- bytes are refused with one of these statuses
abbrev pub IsRefusalStatus : ℕ → Type 0
IsRefusalStatus status = (status ≡ 400) ⊎ ((status ≡ 411) ⊎ ((status ≡ 413) ⊎ ((status ≡ 431) ⊎ (status ≡ 501))))

-- a denial is by a rule from 1 to 21; a status is one with which bytes are refused
abbrev pub IsSent : Answer → Type 0
IsSent (ToRequest reply) = HasRule reply
IsSent (Not refusal) = ⊤
IsSent (Status status) = IsRefusalStatus status
