pub mod Calls
pub mod Says
pub mod Answers
pub mod Noted
pub mod WhatIsRead
