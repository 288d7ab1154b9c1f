pub mod CountLaws
pub mod PromiseLaws
pub mod AnswerLaws
pub mod GrownLaws
pub mod ModeLaws
pub mod RoomLaws
