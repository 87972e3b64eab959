mod PolicyCalls
